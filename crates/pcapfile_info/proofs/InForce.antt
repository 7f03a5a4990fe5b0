-- Lemmas on the current section and its interfaces, their byte order and their clocks.
use Rattle.std.proofs.Common.{◌≡◌, ◌∙◌, ◌-◌, ℕ, List, [], ◌∷◌, ◌++◌, length, map, Option, Some, None, refl, sym, ap, subst, arith, length-append}
use Rattle.std.specs.Prelude.{MatchOption}
use Rattle.std.specs.List.{AllZip, slice_get}
use Rattle.std.specs.Option.{IsSomeAnd, option_map}
use Rattle.std.proofs.lemmas.List.{length-map}
use Rattle.std.proofs.Math.Seq.{get_or-append_seam}
use Rattle.std.proofs.lemmas.Option.{slice_get-map, slice_get_read}
use Rattle.std.proofs.lemmas.Slice.Zip.{AllZip-left, AllZip-right}
use Rattle.pcap_core.specs.declared.common.Endianness.{Endianness}
use Rattle.pcap_core.specs.Answer.{number_in, whole}
use Rattle.pcap_core.specs.Faults.{Fault}
use Rattle.pcap_items.specs.Headed.{good, bad}
use Rattle.pcap_times.specs.declared.clock.Clock.{Clock}
use Rattle.pcap_times.specs.declared.clock.Timestamp.{Timestamp}
use Rattle.pcap_core.proofs.Kept.{zip_push}
use Rattle.pcap_blocks.specs.declared.block_type.BlockType.{BlockType}
use Rattle.pcap_blocks.specs.declared.block_type.BlockType.TheVariants as types
use Rattle.pcap_blocks.specs.declared.interface_description.InterfaceDescriptionBlock.{InterfaceDescriptionBlock}
use Rattle.pcap_blocks.specs.InterfaceDescription.{Interface, interface_of}
use Rattle.pcap_blocks.specs.InterfaceTimes.{IsClockOf}
use Rattle.pcap_blocks.specs.ParsedBlock.{Body, SectionBody, InterfaceBody, BodySays}
use Rattle.pcap_blocks.specs.SectionHeader.{Section, magic_order}
use Rattle.pcap_ng.specs.Bodies.{SaysOfBody}
use Rattle.pcap_ng.specs.Blocks.{Item, block_format}
use Rattle.pcap_ng.specs.Frames.{Framed}
use Rattle.pcap_ng.specs.Opening.{OpeningSays}
use Rattle.pcap_ng.specs.State.{State, opening, within, is_kept, leads, or_big, order_at, MeansIf}
use Rattle.pcapfile_info.specs.InForce.{IsClocked, LeadsOn, OrderAndClocks}
use Rattle.pcapfile_info.specs.Sights.{IsTimeSeen}

good_in : (a c : State) → good a ≡ good c → a ≡ c
good_in a c e = cc

bad_no_good : (f : Fault) (a : State) → bad f ≡ good a → ⊥
bad_no_good f a e = absurd cc

section_in : (s t : Section) (is js : List Interface) → within s is ≡ within t js → s ≡ t
section_in s t is js e = cc

interfaces_in : (s t : Section) (is js : List Interface) → within s is ≡ within t js → is ≡ js
interfaces_in s t is js e = cc

-- The byte order depends on the section alone.
pub order_within : (section : Section) (interfaces : List Interface) → order_at (within section interfaces) ≡ or_big (magic_order section.magic)
unfolding order_at
order_within section interfaces = refl

-- After a section header its order is in force, with no clocks.
pub section_followed : (order : Endianness) (clocks : List Clock) (section : Section) (interfaces : List Interface) → order ≡ or_big (magic_order section.magic) → clocks ≡ [] → (before : State)
    → LeadsOn types.SectionHeader before (within section interfaces) → OrderAndClocks order clocks (within section interfaces)
section_followed order clocks section interfaces named none before leads =
    (named ∙ sym (order_within section interfaces), rw (interfaces_in section leads.0 interfaces [] leads.1, none) tt)

-- The last interface after one was appended is the appended one.
last_is : (before interfaces : List Interface) (one last : Interface) → interfaces ≡ before ++ one ∷ [] → slice_get interfaces (length interfaces - 1) ≡ Some last → one ≡ last
last_is before interfaces one last split at =
    let there : length interfaces - 1 ≡ length before = omega (arith, ap length split, length-append before (one ∷ [])) in
    let seam : slice_get (before ++ one ∷ []) (length before) ≡ Some one =
    slice_get_read (before ++ one ∷ []) (length (before ++ one ∷ [])) (length before) one refl (omega (arith, length-append before (one ∷ []))) (sym (get_or-append_seam before one [] one)) in
    let here : slice_get (before ++ one ∷ []) (length before) ≡ Some last = rw (← split, ← there) at in
    some_in one last (sym seam ∙ here)
  where
    some_in : (a b : Interface) → Some a ≡ Some b → a ≡ b
    some_in a b e = cc

-- The last parsed interface gives the last interface of the specification.
pub last_seen : (interfaces : List InterfaceDescriptionBlock) (last : InterfaceDescriptionBlock) → Some last ≡ slice_get interfaces (length interfaces - 1)
    → slice_get (map interface_of interfaces) (length (map interface_of interfaces) - 1) ≡ Some (interface_of last)
last_seen interfaces last at =
    rw (length-map interfaces interface_of) (slice_get-map interface_of interfaces (length interfaces - 1) ∙ ap (option_map interface_of) (sym at))

-- After an interface description the clock of the last interface is known, too.
pub interface_followed : (order : Endianness) (old new : List Clock) (section : Section) (interfaces : List Interface) (last : Interface) (clock : Clock) → new ≡ old ++ clock ∷ []
    → slice_get interfaces (length interfaces - 1) ≡ Some last → IsClockOf last clock → (q : State) → OrderAndClocks order old q → LeadsOn types.InterfaceDescription q (within section interfaces) → OrderAndClocks order new (within section interfaces)
interface_followed order old new section interfaces last clock more at is opening known leads = absurd known
interface_followed order old new section interfaces last clock more at is (within s before) known leads =
    let one = leads.0 in
    let split = interfaces_in section s interfaces (before ++ one ∷ []) leads.1 in
    let same = section_in section s interfaces (before ++ one ∷ []) leads.1 in
    let its = subst (λ (i : Interface). IsClockOf i clock) (sym (last_is before interfaces one last split at)) is in
    let magic : or_big (magic_order s.magic) ≡ or_big (magic_order section.magic) = ap (λ (x : Section). or_big (magic_order x.magic)) (sym same) in (
      known.0 ∙ order_within s before ∙ magic ∙ sym (order_within section interfaces),
      rw (split, more) (zip_push IsClockOf before old one clock known.1 its),
    )

-- The body of a block of this type is read as a body of this type.
body_as : (b : Framed) (type : BlockType) (body : Body) (rest : List ℕ) → b.type_ ≡ type → SaysOfBody b (whole body rest) → BodySays (number_in b.endianness) type b.body (whole body rest)
body_as b type body rest is says = subst (λ (t : BlockType). BodySays (number_in b.endianness) t b.body (whole body rest)) is says

-- Equal bodies lead to the same state.
leads_as : (q next : State) (body other : Body) → body ≡ other → leads q body ≡ good next → leads q other ≡ good next
leads_as q next body other is e = subst (λ (x : Body). leads q x ≡ good next) is e

module _ (section : Section) (interfaces : List Interface) (b : Framed) (after : State) where
  -- The type of a block determines how it leads on.
  type_leads : (type : BlockType) → b.type_ ≡ type → MeansIf (is_kept type) (within section interfaces) b (good after) → LeadsOn type (within section interfaces) after
  type_leads types.SectionHeader is m =
      let y = body_as b types.SectionHeader m.0 m.1 is m.2 in
      (y.0, sym (good_in (within y.0 []) after (leads_as (within section interfaces) after m.0 (SectionBody y.0) y.1 m.3)))
  type_leads types.InterfaceDescription is m =
      let y = body_as b types.InterfaceDescription m.0 m.1 is m.2 in
      (y.0, sym (good_in (within section (interfaces ++ y.0 ∷ [])) after (leads_as (within section interfaces) after m.0 (InterfaceBody y.0) y.1 m.3)))
  type_leads _ is m = m

-- A block that was read leads from the state before it to the state after it.
pub taken_leads : (section : Section) (interfaces : List Interface) (item : Item) (t rest : List ℕ) → block_format.says (within section interfaces) t (whole item rest) → LeadsOn item.block.type_ (within section interfaces) item.after
unfolding block_format
taken_leads section interfaces item t rest says = type_leads section interfaces item.block item.after item.block.type_ refl says.means

-- The first section has no interface.
pub opens_bare : (section : Section) (interfaces : List Interface) (text rest : List ℕ) → OpeningSays text (whole (within section interfaces) rest) → interfaces ≡ []
opens_bare section interfaces text rest says =
    let m = says.1.means in
    by_body m.0 m.3
  where
    by_body : (body : Body) → leads opening body ≡ good (within section interfaces) → interfaces ≡ []
    by_body (SectionBody s) e = sym (interfaces_in s section [] interfaces (good_in (within s []) (within section interfaces) e))
    by_body _ e = absurd (bad_no_good _ (within section interfaces) e)

-- The clock of an interface gives the interface's times.
clock_tells : (interface : Option Interface) (clock : Option Clock) → MatchOption interface (Unit {0}) (λ x. IsSomeAnd clock (IsClockOf x)) → MatchOption clock (Unit {0}) (λ y. IsSomeAnd interface (λ x. IsClockOf x y))
    → (units : ℕ) (time : Option Timestamp) → IsClocked clock units time → IsTimeSeen interface units time
clock_tells None None left right units time is = is
clock_tells None (Some c) left right units time is = absurd right
clock_tells (Some i) None left right units time is = absurd left
clock_tells (Some i) (Some c) left right units (Some time) is = record { clock = c; clock_is = left; time_is = is }
clock_tells (Some i) (Some c) left right units None is = absurd is

pub clocked_seen : (interfaces : List Interface) (clocks : List Clock) → AllZip IsClockOf interfaces clocks → (number units : ℕ) (time : Option Timestamp) → IsClocked (slice_get clocks number) units time → IsTimeSeen (slice_get interfaces number) units time
clocked_seen interfaces clocks all number units time is =
    clock_tells (slice_get interfaces number) (slice_get clocks number) (AllZip-left IsClockOf interfaces clocks all number) (AllZip-right IsClockOf interfaces clocks all number) units time is
