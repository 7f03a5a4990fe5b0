-- The answers of strict reading for blocks that are also read leniently.
use Rattle.std.proofs.Common.{◌≡◌, ◌≢◌, ℕ, List, [], ◌∷◌, ◌++◌, map, true, false, Bool, Option, Some, None, refl, sym, ap, subst, ◌∙◌, inl, inr}
use Rattle.std.proofs.lemmas.List.{map-append}
use Rattle.pcap_core.specs.declared.common.Endianness.{Endianness}
use Rattle.pcap_core.specs.declared.rules.Rule.TheVariants.{SectionMissing}
use Rattle.pcap_core.specs.Answer.{number_in, Verdict, whole, lacks, faulty}
use Rattle.pcap_core.specs.Faults.{Fault, Invalid}
use Rattle.pcap_items.specs.Headed.{HeadReading, good, bad}
use Rattle.pcap_blocks.specs.declared.block_type.BlockType.{BlockType}
use Rattle.pcap_blocks.specs.declared.block_type.BlockType.TheVariants as types
use Rattle.pcap_blocks.specs.InterfaceDescription.{Interface, InterfaceSays}
use Rattle.pcap_blocks.specs.SectionHeader.{Section, SectionSays}
use Rattle.pcap_blocks.specs.ParsedBlock.{Body, SectionBody, InterfaceBody, BodySays}
use Rattle.pcap_blocks.proofs.OneInterface.{interface_one}
use Rattle.pcap_blocks.proofs.OneSection.{section_one}
use Rattle.pcap_ng.specs.Bodies.{SaysOfBody}
use Rattle.pcap_ng.specs.Frames.{Framed, FrameText, FrameLacks, FrameFault}
use Rattle.pcap_ng.specs.State as strict
use Rattle.pcap_ng.specs.Blocks as strict_blocks
use Rattle.pcap_ng.proofs.BlockFormat.{means_one, block_one}
use Rattle.pcap_ng.proofs.KeptBodies.{read_means}
use Rattle.pcap_tolerant_blocks.specs.Flaws.{Said, StrictIs, StrictIsWhere}
use Rattle.pcap_tolerant_blocks.specs.SectionAsIs.{NoSection}
use Rattle.pcap_tolerant_blocks.proofs.StrictBodies.{interface_strict, section_strict, section_refused}
use Rattle.pcap_tolerant_captures.specs.State.{State, within, order_at, Role, begins_section, adds_interface, leaves_all, role_of, Led, MeansFor, Means}
use Rattle.pcap_tolerant_captures.specs.Blocks.{Item, AsIsSays}
use Rattle.pcap_tolerant_captures.specs.Strict as law
use Rattle.pcap_tolerant_captures.specs.Strict.{as_it_stands}

order_same : (q : strict.State) → order_at (as_it_stands q) ≡ strict.order_at q
unfolding strict.order_at
order_same strict.opening = refl
order_same (strict.within section interfaces) = refl

-- The meaning of a body in strict reading: it leads on, or is refused.
Leads : strict.State → Framed → List Said → State → Type 0
Leads q b [] after = (next : strict.State) × (after ≡ as_it_stands next) × strict.Means q b (good next)
Leads q b (first ∷ others) after = strict.Means q b (bad first.fault)

-- ---- a section

section_read : (q : strict.State) → strict.is_read q types.SectionHeader ≡ true
section_read strict.opening = refl
section_read (strict.within section interfaces) = refl

section_led : (q : strict.State) (section : Section) → strict.leads q (SectionBody section) ≡ good (strict.within section [])
section_led strict.opening section = refl
section_led (strict.within s i) section = refl

module _ (q : strict.State) (b : Framed) (is : b.type_ ≡ types.SectionHeader) where
  section_is_read : strict.is_read q b.type_ ≡ true
  section_is_read = ap (strict.is_read q) is ∙ section_read q

  says_section : (v : Verdict Body) → BodySays (number_in b.endianness) types.SectionHeader b.body v → SaysOfBody b v
  says_section v h = subst (λ (t : BlockType). BodySays (number_in b.endianness) t b.body v) (sym is) h

  section_good : (section : Section) (rest : List ℕ) → SectionSays b.body (whole section rest) → strict.Means q b (good (strict.within section []))
  section_good section rest h =
      read_means q b (good (strict.within section [])) section_is_read (SectionBody section, rest, says_section (whole (SectionBody section) rest) (section, refl, h), section_led q section)

  section_bad : (f : Fault) → SectionSays b.body (faulty f) → strict.Means q b (bad f)
  section_bad f h = read_means q b (bad f) section_is_read (inl (says_section (faulty f) h))

  section_verdict : (flaws : List Said) (section : Section) (rest : List ℕ) (after : State) (v : Verdict Section) → SectionSays b.body v → StrictIs flaws section rest v → after ≡ as_it_stands (strict.within section []) → Leads q b flaws after
  unfolding Leads
  section_verdict [] section rest after v said e is_after =
      (strict.within section [], is_after, section_good section rest (subst (SectionSays b.body) e said))
  section_verdict (first ∷ others) section rest after v said e is_after = section_bad first.fault (subst (SectionSays b.body) e said)

  section_leads : (led : Led) → MeansFor begins_section (as_it_stands q) b (good led) → Leads q b led.flaws led.after
  section_leads led h =
      let one = section_one b.body in
      section_verdict led.flaws h.0 h.1 led.after one.value one.holds (section_strict h.0 led.flaws b.body h.1 one.value h.2 one.holds) h.3

  section_refuses : (f : Fault) → NoSection b.body f → strict.Means q b (bad f)
  section_refuses f h = section_bad f (section_refused b.body f h)

-- ---- an interface

module _ (section : Section) (interfaces : List Interface) (b : Framed) (is : b.type_ ≡ types.InterfaceDescription) where
  abbrev q : strict.State
  q = strict.within section interfaces

  says_interface : (v : Verdict Body) → BodySays (number_in b.endianness) types.InterfaceDescription b.body v → SaysOfBody b v
  says_interface v h = subst (λ (t : BlockType). BodySays (number_in b.endianness) t b.body v) (sym is) h

  interface_good : (i : Interface) (rest : List ℕ) → InterfaceSays (number_in b.endianness) b.body (whole i rest) → strict.Means q b (good (strict.within section (interfaces ++ i ∷ [])))
  interface_good i rest h =
      read_means q b (good (strict.within section (interfaces ++ i ∷ []))) (ap strict.is_kept is) (InterfaceBody i, rest, says_interface (whole (InterfaceBody i) rest) (i, refl, h), refl)

  interface_bad : (f : Fault) → InterfaceSays (number_in b.endianness) b.body (faulty f) → strict.Means q b (bad f)
  interface_bad f h = read_means q b (bad f) (ap strict.is_kept is) (inl (says_interface (faulty f) h))

  interface_verdict : (flaws : List Said) (interface : Option Interface) (rest : List ℕ) (after : State) (v : Verdict Interface) → InterfaceSays (number_in b.endianness) b.body v → StrictIsWhere flaws interface rest v
      → after ≡ within section (map Some interfaces ++ interface ∷ []) → Leads q b flaws after
  unfolding Leads
  interface_verdict [] None rest after v said e is_after = absurd e
  interface_verdict [] (Some i) rest after v said e is_after =
      let next = strict.within section (interfaces ++ i ∷ []) in
      let all : map Some interfaces ++ Some i ∷ [] ≡ map Some (interfaces ++ i ∷ []) = sym (map-append Some interfaces (i ∷ [])) in
      (next, is_after ∙ ap (within section) all, interface_good i rest (subst (InterfaceSays (number_in b.endianness) b.body) e said))
  interface_verdict (first ∷ others) None rest after v said e is_after = interface_bad first.fault (subst (InterfaceSays (number_in b.endianness) b.body) e said)
  interface_verdict (first ∷ others) (Some i) rest after v said e is_after = interface_bad first.fault (subst (InterfaceSays (number_in b.endianness) b.body) e said)

  interface_leads : (led : Led) → MeansFor adds_interface (as_it_stands q) b (good led) → Leads q b led.flaws led.after
  interface_leads led h =
      let adds = h.1 in
      let one = interface_one (number_in b.endianness) b.body in
      interface_verdict led.flaws adds.interface adds.rest led.after one.value one.holds (interface_strict (number_in b.endianness) adds.interface led.flaws b.body adds.rest one.value adds.text one.holds)
      (h.2 ∙ ap (within section) adds.one_more)

-- ---- any block

-- The kinds of blocks: a section, an interface, or a block whose body neither reading keeps.
data KindOf (t : BlockType) : Type 0 where
  is_section : t ≡ types.SectionHeader → KindOf t
  is_interface : t ≡ types.InterfaceDescription → KindOf t
  is_other : role_of t ≡ leaves_all → strict.is_kept t ≡ false → KindOf t

kind_of : (t : BlockType) → KindOf t
kind_of types.SectionHeader = is_section refl
kind_of types.InterfaceDescription = is_interface refl
kind_of _ = is_other refl refl

-- A body of another type is no section's.
leads_nowhere : (order : ℕ → List ℕ → ℕ) (t : BlockType) (s rest : List ℕ) (body : Body) → t ≢ types.SectionHeader → BodySays order t s (whole body rest) → strict.leads strict.opening body ≡ bad (Invalid SectionMissing)
leads_nowhere order types.SectionHeader s rest body differs h = absurd (differs refl)
leads_nowhere order _ s rest body differs h = ap (strict.leads strict.opening) h.1

good_no_bad : (a : strict.State) (f : Fault) → bad f ≡ good a → ⊥
good_no_bad a f e = absurd cc

-- A first block that is no section header is refused by both readings.
first_refused : (b : Framed) → b.type_ ≢ types.SectionHeader → (r : HeadReading strict.State) → strict.Means strict.opening b r → (f : Fault) × strict.Means strict.opening b (bad f)
first_refused b differs (good next) h = absurd (good_no_bad next (Invalid SectionMissing) (sym (leads_nowhere (number_in b.endianness) b.type_ b.body h.1 h.0 differs h.2) ∙ h.3))
first_refused b differs (bad f) h = (f, h)

unread : (section : Section) (interfaces : List Interface) (b : Framed) → strict.is_kept b.type_ ≡ false → strict.Means (strict.within section interfaces) b (good (strict.within section interfaces))
unread section interfaces b is =
    let q = strict.within section interfaces in
    let here : strict.MeansIf false q b (good q) = refl in
    subst (λ (t : Bool). strict.MeansIf t q b (good q)) (sym is) here

means_with : (q : State) (b : Framed) (r : HeadReading Led) (role : Role) → role_of b.type_ ≡ role → Means q b r → MeansFor role q b r
means_with q b r role is h = subst (λ (x : Role). MeansFor x q b r) is h

other_leads : (section : Section) (interfaces : List Interface) (b : Framed) (flaws : List Said) (after : State) → strict.is_kept b.type_ ≡ false → flaws ≡ [] → after ≡ as_it_stands (strict.within section interfaces)
    → Leads (strict.within section interfaces) b flaws after
unfolding Leads
other_leads section interfaces b flaws after is none same =
    let next = strict.within section interfaces in
    let here : Leads next b [] after = (next, same, unread section interfaces b is) in
    subst (λ (l : List Said). Leads next b l after) (sym none) here

leads : (q : strict.State) (b : Framed) (led : Led) → KindOf b.type_ → Means (as_it_stands q) b (good led) → Leads q b led.flaws led.after
leads q b led (is_section is) h = section_leads q b is led (means_with (as_it_stands q) b (good led) begins_section (ap role_of is) h)
leads strict.opening b led (is_interface is) h = absurd (means_with (as_it_stands strict.opening) b (good led) adds_interface (ap role_of is) h)
leads strict.opening b led (is_other is kept) h = absurd (means_with (as_it_stands strict.opening) b (good led) leaves_all is h)
leads (strict.within section interfaces) b led (is_interface is) h =
    interface_leads section interfaces b is led (means_with (as_it_stands (strict.within section interfaces)) b (good led) adds_interface (ap role_of is) h)
leads (strict.within section interfaces) b led (is_other is kept) h =
    let m = means_with (as_it_stands (strict.within section interfaces)) b (good led) leaves_all is h in
    other_leads section interfaces b led.flaws led.after kept m.0 m.1

-- ---- strict reading has exactly this answer

There : strict.State → List ℕ → Verdict Item → Type 0
There q s a = (v : Verdict strict_blocks.Item) × strict_blocks.BlockSays q s v × law.StrictIs q a v

module _ (q : strict.State) (s : List ℕ) where
  frame_here : (b : Framed) (rest : List ℕ) → FrameText (order_at (as_it_stands q)) b s rest → FrameText (strict.order_at q) b s rest
  frame_here b rest h = subst (λ (e : Endianness). FrameText e b s rest) (order_same q) h

  refused_there : (b : Framed) (rest : List ℕ) (f : Fault) → FrameText (order_at (as_it_stands q)) b s rest → strict.Means q b (bad f) → strict_blocks.BlockSays q s (faulty f)
  refused_there b rest f frame means = inr (record { block = b; rest = rest; frame = frame_here b rest frame; means = means })

  led_there : (item : Item) (rest : List ℕ) (flaws : List Said) → FrameText (order_at (as_it_stands q)) item.block s rest → Leads q item.block flaws item.led.after → (v : Verdict strict_blocks.Item) × strict_blocks.BlockSays q s v × law.StrictBlockIs flaws item rest v
  unfolding Leads
  led_there item rest [] frame h =
      (whole (record { block = item.block; after = h.0 }) rest, record { frame = frame_here item.block rest frame; means = h.2 }, (h.0, h.1, refl))
  led_there item rest (first ∷ others) frame h = (faulty first.fault, refused_there item.block rest first.fault frame h, refl)

  no_order : (b : Framed) (rest : List ℕ) (f : Fault) → FrameText (order_at (as_it_stands q)) b s rest → b.type_ ≡ types.SectionHeader → Means (as_it_stands q) b (bad f) → There q s (faulty f)
  unfolding There
  no_order b rest f frame is h =
      let none : NoSection b.body f = means_with (as_it_stands q) b (bad f) begins_section (ap role_of is) h in
      (faulty f, refused_there b rest f frame (section_refuses q b is f none), inl refl)

no_first : (s : List ℕ) (b : Framed) (rest : List ℕ) (f : Fault) → FrameText (order_at (as_it_stands strict.opening)) b s rest → b.type_ ≢ types.SectionHeader → f ≡ Invalid SectionMissing → There strict.opening s (faulty f)
unfolding There
no_first s b rest f frame differs is =
    let one = means_one strict.opening b in
    let t = first_refused b differs one.value one.holds in
    (faulty t.0, refused_there strict.opening s b rest t.0 frame t.1, inr (refl, is, t.0, refl))

not_section : (t u : BlockType) → t ≡ u → u ≢ types.SectionHeader → t ≢ types.SectionHeader
not_section t u e differs is = differs (sym e ∙ is)

other_no_section : (t : BlockType) → role_of t ≡ leaves_all → t ≢ types.SectionHeader
other_no_section t is same = let e : begins_section ≡ leaves_all = sym (ap role_of same) ∙ is in absurd cc

body_there : (q : strict.State) (s : List ℕ) (b : Framed) (rest : List ℕ) (f : Fault) → KindOf b.type_ → FrameText (order_at (as_it_stands q)) b s rest → Means (as_it_stands q) b (bad f) → There q s (faulty f)
body_there q s b rest f (is_section is) frame h = no_order q s b rest f frame is h
body_there strict.opening s b rest f (is_interface is) frame h =
    no_first s b rest f frame (not_section b.type_ types.InterfaceDescription is (λ e. absurd cc)) (means_with (as_it_stands strict.opening) b (bad f) adds_interface (ap role_of is) h)
body_there strict.opening s b rest f (is_other is kept) frame h =
    no_first s b rest f frame (other_no_section b.type_ is) (means_with (as_it_stands strict.opening) b (bad f) leaves_all is h)
body_there (strict.within section interfaces) s b rest f (is_interface is) frame h =
    absurd (means_with (as_it_stands (strict.within section interfaces)) b (bad f) adds_interface (ap role_of is) h)
body_there (strict.within section interfaces) s b rest f (is_other is kept) frame h =
    absurd (means_with (as_it_stands (strict.within section interfaces)) b (bad f) leaves_all is h)

there : (q : strict.State) (s : List ℕ) (a : Verdict Item) → AsIsSays (as_it_stands q) s a → There q s a
unfolding There
there q s (whole item rest) h = led_there q s item rest item.led.flaws h.frame (leads q item.block item.led (kind_of item.block.type_) h.means)
there q s (lacks n) h = (lacks n, subst (λ (e : Endianness). FrameLacks e s n) (order_same q) h, refl)
there q s (faulty f) (inl h) = (faulty f, inl (subst (λ (e : Endianness). FrameFault e s f) (order_same q) h), inl refl)
there q s (faulty f) (inr h) = body_there q s h.block h.rest f (kind_of h.block.type_) h.frame h.means

pub strict_is : (q : strict.State) (s : List ℕ) (a : Verdict Item) (v : Verdict strict_blocks.Item) → AsIsSays (as_it_stands q) s a → strict_blocks.BlockSays q s v → law.StrictIs q a v
unfolding There
strict_is q s a v x y =
    let t = there q s a x in
    let one = block_one q s in
    subst (λ (w : Verdict strict_blocks.Item). law.StrictIs q a w) (one.only t.0 t.1 ∙ sym (one.only v y)) t.2
