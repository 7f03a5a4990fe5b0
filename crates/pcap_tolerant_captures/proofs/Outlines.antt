-- Blocks whose bodies are not read, and the byte order of their section.
use Rattle.std.proofs.Common.{◌≡◌, ◌≤◌, ℕ, List, [], length, Bool, true, false, Option, Some, None, Err, refl, sym, ap, subst, ◌∙◌, inl, inr}
use Rattle.std.specs.Prelude.{is_some}
use Rattle.pcap_core.specs.declared.common.Endianness.{Endianness}
use Rattle.pcap_core.specs.declared.errors.PcapError.{PcapError}
use Rattle.pcap_core.specs.declared.rules.Rule.TheVariants.{SectionMissing, SectionTooShort}
use Rattle.pcap_core.specs.Answer.{whole, lacks, faulty, Refuses}
use Rattle.pcap_core.specs.Faults.{Fault, Invalid}
use Rattle.pcap_items.specs.Headed.{HeadReading, good, bad}
use Rattle.pcap_items.specs.Reading.{HasCause, TakesAsked}
use Rattle.pcap_blocks.specs.declared.block_type.BlockType.TheVariants as types
use Rattle.pcap_blocks.specs.InterfaceDescription.{Interface}
use Rattle.pcap_blocks.specs.SectionHeader.{Section, magic_order}
use Rattle.pcap_ng.specs.Frames.{Framed, FrameText, FrameSays}
use Rattle.pcap_ng.specs.State as strict
use Rattle.pcap_tolerant_captures.specs.Blocks.{Item, AsIsSays, MayGrow, as_is_format}
use Rattle.pcap_tolerant_captures.specs.declared.parser.PcapNgParserAsIs.{PcapNgParserAsIs}
use Rattle.pcap_tolerant_captures.specs.HeldAsIs.{state_in}
use Rattle.pcap_tolerant_captures.specs.Outlines.{known_order, HoldsOutline}
use Rattle.pcap_tolerant_captures.specs.State.{State, opening, within, order_at, Role, begins_section, adds_interface, leaves_all, role_of, Led, MeansFor, Means, section_in_force, interfaces_in_force}
use Rattle.pcap_tolerant_captures.proofs.Refusing.{first_missing, refuses_more}
use Rattle.pcap_tolerant_captures.proofs.StandAgain.{led_unless, not_refused, order_known, section_named, section_role}

-- A section of this byte order.
pub order_named : (section : Section) (interfaces : List (Option Interface)) (e : Endianness) → magic_order section.magic ≡ Some e → known_order (within section interfaces) ≡ Some e
unfolding strict.order_at
order_named section interfaces e is = ap (λ (o : Option Endianness). Some (strict.or_big o)) is

means_with : (role : Role) (q : State) (b : Framed) (r : HeadReading Led) → role_of b.type_ ≡ role → Means q b r → MeansFor role q b r
means_with role q b r is means = subst (λ (x : Role). MeansFor x q b r) is means

-- A block that leads on under a state, and after which the new state knows the byte order.
abbrev pub LeadsOn : State → State → Framed → List ℕ → List ℕ → Type 0
LeadsOn q next b s rest = (led : Led) × AsIsSays q s (whole (record { block = b; led = led }) rest) × (known_order next ≡ known_order led.after)

module _ (q : State) (s rest : List ℕ) (b : Framed) (frame : FrameText (order_at q) b s rest) where
  -- A section header that has the sixteen bytes before its options.
  pub section_leads : b.type_ ≡ types.SectionHeader → 16 ≤ length b.body → (next : State) → known_order next ≡ Some b.endianness → LeadsOn q next b s rest
  section_leads is room next knows =
      let led = led_unless q b (λ fault means. order_known (order_at q) b s rest frame is fault room (means_with begins_section q b (bad fault) (ap role_of is) means)) in
      let begun = means_with begins_section q b (good led.0) (ap role_of is) led.1 in
      let named = section_named (order_at q) b s rest frame is begun.0 led.0.flaws begun.1 begun.2 in
      (led.0, record { frame = frame; means = led.1 }, knows ∙ sym (ap known_order begun.3 ∙ order_named begun.0 [] b.endianness named))

  -- A shorter one is refused.
  pub section_short : b.type_ ≡ types.SectionHeader → (means : MeansFor begins_section q b (bad (Invalid SectionTooShort))) → AsIsSays q s (faulty (Invalid SectionTooShort))
  section_short is means = inr (record { block = b; rest = rest; frame = frame; means = subst (λ (x : Role). MeansFor x q b (bad (Invalid SectionTooShort))) (sym (ap role_of is)) means })

module _ (section : Section) (interfaces : List (Option Interface)) where
  abbrev q : State
  q = within section interfaces

  stays : (role : Role) (b : Framed) (led : Led) → (role ≡ begins_section → ⊥) → MeansFor role q b (good led) → known_order q ≡ known_order led.after
  stays begins_section b led differs means = absurd (differs refl)
  stays adds_interface b led differs means = sym (ap known_order means.2)
  stays leaves_all b led differs means = sym (ap known_order means.1)

  -- Any other block leaves the byte order.
  pub other_leads : (s rest : List ℕ) (b : Framed) → FrameText (order_at q) b s rest → (b.type_ ≡ types.SectionHeader → ⊥) → LeadsOn q q b s rest
  other_leads s rest b frame differs =
      let led = led_unless q b (λ fault means. not_refused section interfaces (role_of b.type_) b fault (λ begins none. differs (section_role b.type_ begins)) means) in
      (led.0, record { frame = frame; means = led.1 }, stays (role_of b.type_) b led.0 (λ begins. differs (section_role b.type_ begins)) led.1)

module _ (q : State) (s : List ℕ) where
  pub frame_refused : (e : PcapError) → Refuses ⊥ (λ n. FrameSays (order_at q) s (lacks n)) (λ f. FrameSays (order_at q) s (faulty f)) e → Refuses ⊥ (λ n. AsIsSays q s (lacks n)) (λ f. AsIsSays q s (faulty f)) e
  frame_refused e x =
      refuses_more ⊥ ⊥ (λ n. FrameSays (order_at q) s (lacks n)) (λ n. AsIsSays q s (lacks n)) (λ f. FrameSays (order_at q) s (faulty f)) (λ f. AsIsSays q s (faulty f)) (λ none. none) (λ n h. h) (λ f h. inl h) e x

  pub may_grow : (e : PcapError) → Refuses ⊥ (λ n. AsIsSays q s (lacks n)) (λ f. AsIsSays q s (faulty f)) e → Refuses (MayGrow q s) (λ n. AsIsSays q s (lacks n)) (λ f. AsIsSays q s (faulty f)) e
  may_grow e x = refuses_more ⊥ (MayGrow q s) (λ n. AsIsSays q s (lacks n)) (λ n. AsIsSays q s (lacks n)) (λ f. AsIsSays q s (faulty f)) (λ f. AsIsSays q s (faulty f)) (λ none. absurd none) (λ n h. h) (λ f h. h) e x

-- ---- the parser of the code

-- There is no parser yet.
none_yet : (parser : Option PcapNgParserAsIs) → is_some parser ≡ false → state_in parser ≡ opening
none_yet None none = refl
none_yet (Some p) none = absurd cc

-- A first block of another type is refused.
pub missing_section : (parser : Option PcapNgParserAsIs) → is_some parser ≡ false → (s rest : List ℕ) (b : Framed) → FrameText (order_at (state_in parser)) b s rest → (b.type_ ≡ types.SectionHeader → ⊥) → AsIsSays (state_in parser) s (faulty (Invalid SectionMissing))
missing_section parser none s rest b frame differs =
    let means = subst (λ (q : State). MeansFor (role_of b.type_) q b (bad (Invalid SectionMissing))) (sym (none_yet parser none)) (first_missing b.type_ differs b) in
    inr (record { block = b; rest = rest; frame = frame; means = means })

-- A later one leaves the byte order.
pub begun_leads : (parser : Option PcapNgParserAsIs) → is_some parser ≡ true → (s rest : List ℕ) (b : Framed) → FrameText (order_at (state_in parser)) b s rest → (b.type_ ≡ types.SectionHeader → ⊥) → LeadsOn (state_in parser) (state_in parser) b s rest
begun_leads None some s rest b frame differs = absurd cc
begun_leads (Some p) some s rest b frame differs = other_leads (section_in_force p) (interfaces_in_force p) s rest b frame differs

-- ---- held bytes

pub err_holds : (q new : State) (before after : Option (List ℕ)) (failed : Bool) (held : List ℕ) (e : PcapError) → new ≡ q → HasCause (as_is_format.says q) before failed e × TakesAsked (as_is_format.says q) before after
    → HoldsOutline q new before after failed held (Err e)
err_holds q new before after failed held e same cause = record { led = record { flaws = []; after = q }; leads = same; pulls = cause; text = tt }
