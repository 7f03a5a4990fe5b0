-- Blocks from lenient reading, as structs show them.
use Rattle.std.proofs.Common.{◌≡◌, ◌<◌, ◌+◌, ◌-◌, ◌^◌, ℕ, suc, List, [], ◌∷◌, ◌++◌, length, map, take, min, get_or, Some, None, Ok, refl, sym, ap, subst, ◌∙◌, arith, inl, inr}
use Rattle.std.specs.Global.{Vec}
use Rattle.std.specs.Prelude.{slice_set}
use Rattle.std.proofs.lemmas.Grind.{take-set_at}
use Rattle.std.proofs.lemmas.List.{map_push, get_or-map, length-map}
use Rattle.std.proofs.Math.Seq.{take-suc}
use Rattle.pcap_core.specs.declared.common.Endianness.{Endianness}
use Rattle.pcap_core.specs.declared.errors.PcapError.{PcapError}
use Rattle.pcap_core.specs.declared.rules.Rule.TheVariants.{SectionMissing}
use Rattle.pcap_core.specs.Answer.{Order, number_in, lacks, faulty, Refuses}
use Rattle.pcap_core.specs.Faults.{Names}
use Rattle.pcap_items.specs.Headed.{good, bad}
use Rattle.pcap_core.proofs.Refusals.{named_refuses}
use Rattle.pcap_blocks.specs.declared.block_type.BlockType.{BlockType}
use Rattle.pcap_blocks.specs.declared.block_type.BlockType.TheVariants as types
use Rattle.pcap_blocks.specs.SectionHeader.{magic_order}
use Rattle.pcap_ng.specs.Frames.{Framed, FrameText, FrameSays}
use Rattle.pcap_ng.specs.State as strict
use Rattle.pcap_tolerant_blocks.specs.declared.flaws.Flaw.{Flaw}
use Rattle.pcap_tolerant_blocks.specs.EnhancedAsIs.{EnhancedText}
use Rattle.pcap_tolerant_blocks.specs.Flaws.{Said, said_of}
use Rattle.pcap_tolerant_blocks.specs.InterfaceAsIs.{InterfaceText}
use Rattle.pcap_tolerant_blocks.specs.SectionAsIs.{SectionText}
use Rattle.pcap_tolerant_captures.specs.Blocks.{AsIsSays}
use Rattle.pcap_tolerant_captures.specs.State.{State, opening, within, order_at, Role, leaves_all, role_of, Led, MeansFor, Means}
use Rattle.pcap_tolerant_captures.proofs.Refusing.{refuses_more, first_missing}
use Rattle.pcapfile_values.specs.declared.blocks.PcapfileBlock.{PcapfileBlock}
use Rattle.pcapfile_values.specs.declared.blocks.PcapfileSection.{PcapfileSection}
use Rattle.pcapfile_values.specs.Blocks.{ShowsBlock, ShowsSection, order_shown}
use Rattle.pcapfile_values.proofs.Leading.{counted, or_some, order_of_section, zero_opens}
use Rattle.pcapfile_c.specs.declared.blocks_as_is.FoundAsIs.{FoundAsIs}
use Rattle.pcapfile_c.specs.declared.blocks_as_is.PcapfileBlockFlaw.{PcapfileBlockFlaw}
use Rattle.pcapfile_c.specs.BlocksAsIs.{ShowsStanding, shown_flaw, Reading, ReadsAs, ShowsReading, CanGrow, MayGrow, said_in, IsOf, TellsSection, FindsNothing, FindsInterface, FindsPacket, LeadsStanding}

-- ---- flaws in places

-- One more flaw is shown.
pub flaws_more : (flaws : List Flaw) (places : List PcapfileBlockFlaw) (i : ℕ) (d : Flaw) (x : PcapfileBlockFlaw) → i < length flaws → i < length places → x ≡ shown_flaw (said_of (get_or flaws i d))
    → take i places ≡ map shown_flaw (take i (map said_of flaws)) → take (i + 1) (slice_set places i x) ≡ map shown_flaw (take (i + 1) (map said_of flaws))
flaws_more flaws places i d x here there is before =
    let said : List Said = map said_of flaws in
    let next : i + 1 ≡ suc i = omega arith in
    let within : i < length said = rw (length-map flaws said_of) here in
    let last : take (i + 1) said ≡ take i said ++ said_of (get_or flaws i d) ∷ [] =
    ap (λ (n : ℕ). take n said) next ∙ take-suc said i (said_of d) within ∙ ap (λ (s : Said). take i said ++ s ∷ []) (get_or-map said_of flaws i d (said_of d) here) in
    let pushed : map shown_flaw (take (i + 1) said) ≡ map shown_flaw (take i said) ++ shown_flaw (said_of (get_or flaws i d)) ∷ [] = ap (map shown_flaw) last ∙ map_push shown_flaw (take i said) (said_of (get_or flaws i d)) in
    take-set_at places i (i + 1) x refl there ∙ ap (λ (l : List PcapfileBlockFlaw). l ++ x ∷ []) before ∙ ap (λ (y : PcapfileBlockFlaw). map shown_flaw (take i said) ++ y ∷ []) is ∙ sym pushed

-- ---- the state

-- The byte order that a struct shows is that of the state.
pub order_stands : (shown : PcapfileSection) (q : State) (e : Endianness) → ShowsStanding shown q → order_shown shown.magic_number ≡ Some e → order_at q ≡ e
unfolding strict.order_at
order_stands shown opening e shows is = ap strict.or_big (sym (ap order_shown shows) ∙ is)
order_stands shown (within section interfaces) e shows is =
    or_some (magic_order section.magic) e (sym (order_of_section section.magic shows.0.named) ∙ sym (ap order_shown shows.0.magic) ∙ is)

-- The state after a block of this type, and what is read of it, as it is found and shown.
found_leads : (q : State) (b : Framed) (lent : PcapfileBlock) (x : FoundAsIs) (next : PcapfileSection) (t : BlockType) (led : Led) (reading : Reading) → b.type_ ≡ t → ShowsBlock b lent → IsOf lent x.shown → MeansFor (role_of t) q b (good led)
    → ReadsAs t (number_in b.endianness) b.body led.flaws reading → ShowsReading reading x.shown → said_in x.flaws ≡ reading.flaws → ShowsStanding next led.after → LeadsStanding q b (Ok (x, next))
found_leads q b lent x next t led reading is shows of means reads shown flaws after =
    let here : Means q b (good led) = subst (λ (type : BlockType). MeansFor (role_of type) q b (good led)) (sym is) means in
    let read : ReadsAs b.type_ (number_in b.endianness) b.body led.flaws reading = subst (λ (type : BlockType). ReadsAs type (number_in b.endianness) b.body led.flaws reading) (sym is) reads in
    (led, here, record { type_is = of.0 ∙ shows.0; body_is = of.1 ∙ shows.1; stands = record { reading = reading; reads = read; shows = shown; flaws_are = flaws } }, after)

-- The section that begins with a section header.
pub section_stands : (q : State) (b : Framed) (lent : PcapfileBlock) (x : FoundAsIs) (next : PcapfileSection) (flaws : Vec Flaw) → b.type_ ≡ types.SectionHeader → ShowsBlock b lent
    → FindsNothing lent (said_in flaws) x → TellsSection lent.body.now (Ok (next, flaws)) → LeadsStanding q b (Ok (x, next))
section_stands q b lent x next flaws is shows found told =
    let text : SectionText told.0 (said_in flaws) b.body told.1 = subst (λ (s : List ℕ). SectionText told.0 (said_in flaws) s told.1) shows.1 told.2 in
    found_leads q b lent x next types.SectionHeader (record { flaws = said_in flaws; after = within told.0 [] }) (record { interface = None; packet = None; flaws = said_in flaws }) is shows found.0 (told.0, told.1, text, refl) (refl, refl, refl)
    found.1 found.2 (told.3, told.4)

-- A block that is neither a section header nor an interface leaves the state as it is.
other_leaves : (t : BlockType) → (t ≡ types.SectionHeader → ⊥) → (t ≡ types.InterfaceDescription → ⊥) → role_of t ≡ leaves_all
other_leaves types.SectionHeader no_section no_interface = absurd (no_section refl)
other_leaves types.InterfaceDescription no_section no_interface = absurd (no_interface refl)
other_leaves _ no_section no_interface = refl

-- The body of a block that is neither an interface nor an enhanced packet is not read.
other_reads : (t : BlockType) (order : Order) (body : List ℕ) → (t ≡ types.InterfaceDescription → ⊥) → (t ≡ types.EnhancedPacket → ⊥) → ReadsAs t order body [] (record { interface = None; packet = None; flaws = [] })
other_reads types.SectionHeader order body no_interface no_packet = (refl, refl, refl)
other_reads types.InterfaceDescription order body no_interface no_packet = absurd (no_interface refl)
other_reads types.EnhancedPacket order body no_interface no_packet = absurd (no_packet refl)
other_reads _ order body no_interface no_packet = (refl, refl, refl)

-- A first block that is no section header.
pub missing_stands : (shown : PcapfileSection) (q : State) (b : Framed) (e : PcapError) → ShowsStanding shown q → shown.magic_number ≡ 0 → (b.type_ ≡ types.SectionHeader → ⊥) → Names SectionMissing e
    → Refuses (CanGrow q b) (λ n. ⊥) (λ fault. Means q b (bad fault)) e
missing_stands shown opening b e shows zero other named =
    named_refuses (CanGrow opening b) (λ n. ⊥) (λ fault. Means opening b (bad fault)) SectionMissing e (first_missing b.type_ other b) named
missing_stands shown (within section interfaces) b e shows zero other named = absurd (zero_opens shown section shows.0 zero)

-- After the first block: an interface.
pub interface_stands : (shown next : PcapfileSection) (q : State) (b : Framed) (lent : PcapfileBlock) (x : FoundAsIs) → ShowsStanding shown q → (shown.magic_number ≡ 0 → ⊥) → b.type_ ≡ types.InterfaceDescription
    → ShowsBlock b lent → FindsInterface (number_in b.endianness) lent x
    → next.magic_number ≡ shown.magic_number → next.version_major ≡ shown.version_major → next.version_minor ≡ shown.version_minor → next.interfaces ≡ min (shown.interfaces + 1) (2 ^ 32 - 1)
    → LeadsStanding q b (Ok (x, next))
interface_stands shown next opening b lent x shows some is of found magic major minor count = absurd (some shows)
interface_stands shown next (within section interfaces) b lent x shows some is of found magic major minor count =
    let all = interfaces ++ found.1 ∷ [] in
    let text : InterfaceText (number_in b.endianness) found.1 (said_in x.flaws) b.body found.2 = subst (λ (s : List ℕ). InterfaceText (number_in b.endianness) found.1 (said_in x.flaws) s found.2) of.1 found.3 in
    let kept : ShowsSection next section = record { magic = magic ∙ shows.0.magic; named = shows.0.named; major = major ∙ shows.0.major; minor = minor ∙ shows.0.minor } in
    found_leads (within section interfaces) b lent x next types.InterfaceDescription (record { flaws = said_in x.flaws; after = within section all }) (record { interface = found.1; packet = None; flaws = said_in x.flaws }) is of found.0
    (all, record { interface = found.1; rest = found.2; text = text; one_more = refl }, refl) (refl, refl, (found.2, text)) found.4 refl (kept, counted interfaces found.1 shown.interfaces next.interfaces shows.1 count)

-- After the first block: an enhanced packet.
pub packet_stands : (shown : PcapfileSection) (q : State) (b : Framed) (lent : PcapfileBlock) (x : FoundAsIs) → ShowsStanding shown q → (shown.magic_number ≡ 0 → ⊥) → b.type_ ≡ types.EnhancedPacket
    → ShowsBlock b lent → FindsPacket (number_in b.endianness) lent x → LeadsStanding q b (Ok (x, shown))
packet_stands shown opening b lent x shows some is of found = absurd (some shows)
packet_stands shown (within section interfaces) b lent x shows some is of found =
    let text : EnhancedText (number_in b.endianness) found.1 (said_in x.flaws) b.body found.2 = subst (λ (s : List ℕ). EnhancedText (number_in b.endianness) found.1 (said_in x.flaws) s found.2) of.1 found.3 in
    found_leads (within section interfaces) b lent x shown types.EnhancedPacket (record { flaws = []; after = within section interfaces }) (record { interface = None; packet = found.1; flaws = said_in x.flaws }) is of found.0 (refl, refl)
    (refl, (found.2, text)) found.4 refl shows

-- After the first block: any other block.
pub other_stands : (shown : PcapfileSection) (q : State) (b : Framed) (lent : PcapfileBlock) (x : FoundAsIs) → ShowsStanding shown q → (shown.magic_number ≡ 0 → ⊥) → (b.type_ ≡ types.SectionHeader → ⊥)
    → (b.type_ ≡ types.InterfaceDescription → ⊥) → (b.type_ ≡ types.EnhancedPacket → ⊥) → ShowsBlock b lent → FindsNothing lent [] x → LeadsStanding q b (Ok (x, shown))
other_stands shown opening b lent x shows some no_section no_interface no_packet of found = absurd (some shows)
other_stands shown (within section interfaces) b lent x shows some no_section no_interface no_packet of found =
    let q = within section interfaces in
    let led : Led = record { flaws = []; after = q } in
    let there : MeansFor leaves_all q b (good led) = (refl, refl) in
    let means = subst (λ (r : Role). MeansFor r q b (good led)) (sym (other_leaves b.type_ no_section no_interface)) there in
    found_leads q b lent x shown b.type_ led (record { interface = None; packet = None; flaws = [] }) refl of found.0 means (other_reads b.type_ (number_in b.endianness) b.body no_interface no_packet) found.1 found.2 shows

-- ---- refusals

module _ (q : State) (s : List ℕ) where
  -- A refused frame refuses the block.
  pub frame_refused : (e : PcapError) → Refuses ⊥ (λ n. FrameSays (order_at q) s (lacks n)) (λ f. FrameSays (order_at q) s (faulty f)) e
      → Refuses (MayGrow q s) (λ n. AsIsSays q s (lacks n)) (λ f. AsIsSays q s (faulty f)) e
  frame_refused e x =
      refuses_more ⊥ (MayGrow q s) (λ n. FrameSays (order_at q) s (lacks n)) (λ n. AsIsSays q s (lacks n)) (λ f. FrameSays (order_at q) s (faulty f)) (λ f. AsIsSays q s (faulty f)) (λ none. absurd none) (λ n h. h) (λ f h. inl h) e x

  -- A refused block type or body refuses the block.
  pub standing_refused : (b : Framed) (rest : List ℕ) → FrameText (order_at q) b s rest → (e : PcapError) → Refuses (CanGrow q b) (λ n. ⊥) (λ f. Means q b (bad f)) e
      → Refuses (MayGrow q s) (λ n. AsIsSays q s (lacks n)) (λ f. AsIsSays q s (faulty f)) e
  standing_refused b rest frame e x =
      refuses_more (CanGrow q b) (MayGrow q s) (λ n. ⊥) (λ n. AsIsSays q s (lacks n)) (λ f. Means q b (bad f)) (λ f. AsIsSays q s (faulty f)) (λ grows. record { block = b; rest = rest; frame = frame; grows = grows }) (λ n none. absurd none)
      (λ f h. inr (record { block = b; rest = rest; frame = frame; means = h })) e x
