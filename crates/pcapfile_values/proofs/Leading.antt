-- The state after a block, as a struct shows it.
use Rattle.std.proofs.Common.{◌≡◌, ◌+◌, ◌-◌, ◌^◌, ℕ, List, [], ◌∷◌, ◌++◌, length, min, T, Bool, if◌then◌else◌, is_some, Ok, Err, Some, None, true, false, refl, sym, ap, subst, ◌∙◌, inl, inr, arith}
use Rattle.std.specs.Prelude.{IsSome, Option}
use Rattle.std.proofs.lemmas.Bool.{ne_eqb}
use Rattle.std.proofs.lemmas.List.{length-append}
use Rattle.pcap_core.specs.declared.common.Endianness.{Endianness}
use Rattle.pcap_core.specs.declared.common.Endianness.TheVariants.{Big}
use Rattle.pcap_core.specs.declared.errors.PcapError.{PcapError}
use Rattle.pcap_core.specs.declared.errors.PcapError.TheVariants as errors
use Rattle.pcap_core.specs.Answer.{Order, number_in, whole, lacks, faulty, Refuses}
use Rattle.pcap_core.specs.Faults.{Fault}
use Rattle.pcap_items.specs.Headed.{good, bad}
use Rattle.pcap_blocks.specs.declared.block_type.BlockType.{BlockType}
use Rattle.pcap_blocks.specs.declared.block_type.BlockType.TheVariants as types
use Rattle.pcap_blocks.specs.InterfaceDescription.{Interface, InterfaceSays}
use Rattle.pcap_blocks.specs.ParsedBlock.{BodySays}
use Rattle.pcap_blocks.specs.SectionHeader.{Section, SectionSays, SectionMayGrow, magic_order}
use Rattle.pcap_ng.specs.Bodies.{SaysOfBody, GrowsInBody}
use Rattle.pcap_ng.specs.Frames.{Framed}
use Rattle.pcap_ng.specs.State.{State, opening, within, or_big, order_at, is_kept, Means, MeansIf, AreKept, CanGrow}
use Rattle.pcap_ng.proofs.KeptBodies.{read_means, read_section, grows_section, section_means, interface_means}
use Rattle.pcap_ng.proofs.Refusing.{refuses_wider}
use Rattle.pcapfile_values.specs.declared.blocks.PcapfileSection.{PcapfileSection}
use Rattle.pcapfile_values.specs.Blocks.{ShowsState, ShowsSection, order_shown, TellsSection, LeadsTells}

pub none_some : (o : Option Endianness) → o ≡ None → IsSome o → ⊥
none_some o is some = subst T (sym (sym (ap (λ (x : Option Endianness). is_some x) is) ∙ some)) tt

-- No body is refused for missing bytes.
pub body_no_lack : (order : Order) (t : BlockType) (s : List ℕ) (n : ℕ) → BodySays order t s (lacks n) → ⊥
body_no_lack order types.SectionHeader s n x = x
body_no_lack order _ s n x = x

pub body_faults : (b : Framed) (M : Type 0) (P : Fault → Type 0) (e : PcapError) → Refuses M (λ n. SaysOfBody b (lacks n)) P e → Refuses M (λ n. ⊥) P e
body_faults b M P (errors.IncompleteBuffer n) x = body_no_lack (number_in b.endianness) b.type_ b.body n x
body_faults b M P _ x = x

-- What the body of a section header says of the block.
module _ (b : Framed) (body : List ℕ) (is : b.type_ ≡ types.SectionHeader) (bytes : body ≡ b.body) where
  section_fault : (fault : Fault) → SectionSays body (faulty fault) → SaysOfBody b (faulty fault)
  section_fault fault says =
      let said : BodySays (number_in b.endianness) types.SectionHeader b.body (faulty fault) = subst (λ (s : List ℕ). SectionSays s (faulty fault)) bytes says in
      subst (λ (t : BlockType). BodySays (number_in b.endianness) t b.body (faulty fault)) (sym is) said

  pub section_puts : (q : State) (shown : PcapfileSection) (told : TellsSection body (Ok shown)) → Means q b (good (within told.0 []))
  section_puts q shown told = section_means b is q told.0 told.1 (subst (λ (s : List ℕ). SectionSays s (whole told.0 told.1)) bytes told.2)

  pub section_refuses : (q : State) (e : PcapError) → TellsSection body (Err e) → LeadsTells q b (Err e)
  section_refuses q e told =
      refuses_wider (SectionMayGrow body) (CanGrow q b) (λ fault. SectionSays body (faulty fault)) (λ fault. Means q b (bad fault)) (λ grows. grows_section b is q)
      (λ fault says. read_means q b (bad fault) (read_section b is q) (inl (section_fault fault says))) e told

-- A magic number that names a byte order is not 0.
pub not_named : (magic : ℕ) → magic ≡ 0 → IsSome (magic_order magic) → ⊥
unfolding magic_order
not_named magic zero_is some = subst T (sym (subst (λ (m : ℕ). IsSome (magic_order m)) zero_is some)) tt

pub zero_opens : (shown : PcapfileSection) (section : Section) → ShowsSection shown section → shown.magic_number ≡ 0 → ⊥
zero_opens shown section shows zero_is = not_named section.magic (sym shows.magic ∙ zero_is) shows.named

pub order_of_section : (magic : ℕ) → IsSome (magic_order magic) → order_shown magic ≡ magic_order magic
order_of_section magic some = ap (λ (t : Bool). if t then Some Big else magic_order magic) (ne_eqb magic 0 (λ is. not_named magic is some))

pub or_some : (o : Option Endianness) (e : Endianness) → o ≡ Some e → or_big o ≡ e
or_some o e is = ap or_big is

-- The byte order that a struct shows is that of the state.
pub order_holds : (shown : PcapfileSection) (q : State) (e : Endianness) → ShowsState shown q → order_shown shown.magic_number ≡ Some e → order_at q ≡ e
unfolding order_at
order_holds shown opening e shows is = ap or_big (sym (ap order_shown shows) ∙ is)
order_holds shown (within section interfaces) e shows is =
    or_some (magic_order section.magic) e (sym (order_of_section section.magic shows.0.named) ∙ sym (ap order_shown shows.0.magic) ∙ is)

-- A section header leads to its section.
pub opened_leads : (q : State) (b : Framed) (shown : PcapfileSection) (section : Section) (rest : List ℕ) → b.type_ ≡ types.SectionHeader → SectionSays b.body (whole section rest) → ShowsSection shown section → shown.interfaces ≡ 0
    → LeadsTells q b (Ok shown)
opened_leads q b shown section rest is says shows none = (within section [], (shows, none), section_means b is q section rest says)

-- The first block is refused.
pub first_refuses : (shown : PcapfileSection) (q : State) (b : Framed) (e : PcapError) → ShowsState shown q → shown.magic_number ≡ 0
    → Refuses (GrowsInBody b) (λ n. ⊥) (λ fault. Means opening b (bad fault)) e → LeadsTells q b (Err e)
first_refuses shown opening b e shows is x = refuses_wider (GrowsInBody b) (CanGrow opening b) (λ fault. Means opening b (bad fault)) (λ fault. Means opening b (bad fault)) inr (λ fault said. said) e x
first_refuses shown (within section interfaces) b e shows is x = absurd (zero_opens shown section shows.0 is)

kept_grows : (t : BlockType) → is_kept t ≡ true → AreKept t
kept_grows types.SectionHeader is = tt
kept_grows types.InterfaceDescription is = tt
kept_grows _ is = absurd cc

-- A block after a section header is refused.
pub change_refuses : (shown : PcapfileSection) (q : State) (b : Framed) (e : PcapError) → ShowsState shown q → (shown.magic_number ≡ 0 → ⊥) → is_kept b.type_ ≡ true
    → Refuses (GrowsInBody b) (λ n. ⊥) (λ fault. SaysOfBody b (faulty fault)) e → LeadsTells q b (Err e)
change_refuses shown opening b e shows some is x = absurd (some shows)
change_refuses shown (within section interfaces) b e shows some is x =
    let q = within section interfaces in
    refuses_wider (GrowsInBody b) (CanGrow q b) (λ fault. SaysOfBody b (faulty fault)) (λ fault. Means q b (bad fault)) (λ grows. kept_grows b.type_ is) (λ fault said. read_means q b (bad fault) is (inl said)) e x

-- One more interface is counted.
pub counted : {A : Type 0} (interfaces : List A) (i : A) (n m : ℕ) → n ≡ min (length interfaces) (2 ^ 32 - 1) → m ≡ min (n + 1) (2 ^ 32 - 1) → m ≡ min (length (interfaces ++ i ∷ [])) (2 ^ 32 - 1)
counted interfaces i n m before now = rw (length-append interfaces (i ∷ []), now, before) (omega arith)

pub interface_leads : (shown next : PcapfileSection) (q : State) (b : Framed) (i : Interface) (rest : List ℕ) → ShowsState shown q → (shown.magic_number ≡ 0 → ⊥)
    → b.type_ ≡ types.InterfaceDescription → InterfaceSays (number_in b.endianness) b.body (whole i rest)
    → next.magic_number ≡ shown.magic_number → next.version_major ≡ shown.version_major → next.version_minor ≡ shown.version_minor → next.interfaces ≡ min (shown.interfaces + 1) (2 ^ 32 - 1)
    → LeadsTells q b (Ok next)
interface_leads shown next opening b i rest shows some is says magic major minor count = absurd (some shows)
interface_leads shown next (within section interfaces) b i rest shows some is says magic major minor count = (
  within section (interfaces ++ i ∷ []),
  (record { magic = magic ∙ shows.0.magic; named = shows.0.named; major = major ∙ shows.0.major; minor = minor ∙ shows.0.minor }, counted interfaces i shown.interfaces next.interfaces shows.1 count),
  interface_means section interfaces b i rest is says,
)

-- Any other block leaves the state as it is.
pub other_leads : (shown : PcapfileSection) (q : State) (b : Framed) → ShowsState shown q → (shown.magic_number ≡ 0 → ⊥) → is_kept b.type_ ≡ false → LeadsTells q b (Ok shown)
other_leads shown opening b shows some is = absurd (some shows)
other_leads shown (within section interfaces) b shows some is =
    let q = within section interfaces in
    (q, shows, subst (λ (t : Bool). MeansIf t q b (good q)) (sym is) refl)
