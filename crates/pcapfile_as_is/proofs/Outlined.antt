-- This file proves that blocks are read alike under two states of sections in the same byte order.
use Rattle.std.proofs.Common.{◌≡◌, ℕ, List, [], ◌∷◌, ◌++◌, Bool, Option, Some, refl, sym, ap, ◌∙◌, subst, inl, inr}
use Rattle.pcap_core.specs.declared.common.Endianness.{Endianness}
use Rattle.pcap_core.specs.declared.errors.PcapError.{PcapError}
use Rattle.pcap_core.specs.Answer.{whole, lacks, faulty, number_in}
use Rattle.pcap_core.specs.Faults.{Fault}
use Rattle.pcap_items.specs.Headed.{good, bad}
use Rattle.pcap_items.specs.Reading.{HasCause, TakesAsked}
use Rattle.pcap_blocks.specs.declared.block_type.BlockType.{BlockType}
use Rattle.pcap_blocks.specs.declared.block_type.BlockType.TheVariants as types
use Rattle.pcap_blocks.specs.InterfaceDescription.{Interface}
use Rattle.pcap_blocks.specs.SectionHeader.{Section, magic_order}
use Rattle.pcap_ng.specs.Frames.{Framed, FrameText, FrameLacks, FrameFault}
use Rattle.pcap_tolerant_blocks.specs.Flaws.{Said}
use Rattle.pcap_tolerant_blocks.specs.InterfaceAsIs.{InterfaceText}
use Rattle.pcap_tolerant_blocks.specs.SectionAsIs.{SectionText}
use Rattle.pcap_tolerant_captures.specs.Blocks.{Item, AsIsText, AsIsSays, as_is_format}
use Rattle.pcap_tolerant_captures.specs.Outlines.{known_order}
use Rattle.pcap_tolerant_captures.specs.State.{State, opening, within, order_at, Role, begins_section, adds_interface, leaves_all, role_of, Led, MeansFor, Means}
use Rattle.pcap_tolerant_captures.proofs.StandAgain.{section_named}
use Rattle.pcapfile_run.specs.WiderCauses.{cause_wider, asked_wider}

orders_same : (p q : State) → known_order p ≡ known_order q → order_at p ≡ order_at q
orders_same opening opening e = refl
orders_same opening (within section interfaces) e = absurd cc
orders_same (within section interfaces) opening e = absurd cc
orders_same (within section interfaces) (within other others) e = cc

bad_same : (role : Role) (p q : State) (b : Framed) (fault : Fault) → known_order p ≡ known_order q → MeansFor role p b (bad fault) → MeansFor role q b (bad fault)
bad_same begins_section p q b fault e h = h
bad_same adds_interface opening opening b fault e h = h
bad_same adds_interface opening (within section interfaces) b fault e h = absurd cc
bad_same adds_interface (within section interfaces) q b fault e h = absurd h
bad_same leaves_all opening opening b fault e h = h
bad_same leaves_all opening (within section interfaces) b fault e h = absurd cc
bad_same leaves_all (within section interfaces) q b fault e h = absurd h

-- A block that leads on under one state leads on under the other, with the same flaws, to a state that knows the same byte order.
pub record LeadsAlike (q : State) (role : Role) (b : Framed) (led : Led) : Type 0 where
  pub next : Led
  pub flaws : next.flaws ≡ led.flaws
  pub knows : known_order next.after ≡ known_order led.after
  pub means : MeansFor role q b (good next)

good_same : (role : Role) (p q : State) (b : Framed) (led : Led) → known_order p ≡ known_order q → MeansFor role p b (good led) → LeadsAlike q role b led
good_same begins_section p q b led e h = record { next = led; flaws = refl; knows = refl; means = h }
good_same adds_interface opening q b led e h = absurd h
good_same adds_interface (within section interfaces) opening b led e h = absurd cc
good_same adds_interface (within section interfaces) (within other others) b led e h =
    let all = others ++ h.1.interface ∷ [] in
    record {
      next = record { flaws = led.flaws; after = within other all };
      flaws = refl;
      knows = sym e ∙ sym (ap known_order h.2);
      means = (all, record { interface = h.1.interface; rest = h.1.rest; text = h.1.text; one_more = refl }, refl);
    }
good_same leaves_all opening q b led e h = absurd h
good_same leaves_all (within section interfaces) opening b led e h = absurd cc
good_same leaves_all (within section interfaces) (within other others) b led e h =
    record { next = record { flaws = led.flaws; after = within other others }; flaws = refl; knows = sym e ∙ sym (ap known_order h.1); means = (h.0, refl) }

module _ (p q : State) (e : known_order p ≡ known_order q) where
  frame_same : (b : Framed) (s rest : List ℕ) → FrameText (order_at p) b s rest → FrameText (order_at q) b s rest
  frame_same b s rest h = subst (λ (o : Endianness). FrameText o b s rest) (orders_same p q e) h

  -- The same block, with the same flaws.
  pub text_same : (b : Framed) (led : Led) (s rest : List ℕ) → AsIsText p (record { block = b; led = led }) s rest
      → (next : Led) × (next.flaws ≡ led.flaws) × (known_order next.after ≡ known_order led.after) × AsIsText q (record { block = b; led = next }) s rest
  text_same b led s rest h =
      let alike = good_same (role_of b.type_) p q b led e h.means in
      (alike.next, alike.flaws, alike.knows, record { frame = frame_same b s rest h.frame; means = alike.means })

  lacks_same : (s : List ℕ) (n : ℕ) → AsIsSays p s (lacks n) → AsIsSays q s (lacks n)
  lacks_same s n h = subst (λ (o : Endianness). FrameLacks o s n) (orders_same p q e) h

  fault_same : (s : List ℕ) (fault : Fault) → AsIsSays p s (faulty fault) → AsIsSays q s (faulty fault)
  fault_same s fault (inl h) = inl (subst (λ (o : Endianness). FrameFault o s fault) (orders_same p q e) h)
  fault_same s fault (inr h) = inr (record { block = h.block; rest = h.rest; frame = frame_same h.block s h.rest h.frame; means = bad_same (role_of h.block.type_) p q h.block fault e h.means })

  -- The same refusal.
  pub cause_same : (known : Option (List ℕ)) (failed : Bool) (error : PcapError) → HasCause (as_is_format.says p) known failed error → HasCause (as_is_format.says q) known failed error
  unfolding as_is_format
  cause_same known failed error h = cause_wider (AsIsSays p) (AsIsSays q) lacks_same fault_same known failed error h

  pub asked_same : (before after : Option (List ℕ)) → TakesAsked (as_is_format.says p) before after → TakesAsked (as_is_format.says q) before after
  unfolding as_is_format
  asked_same before after h = asked_wider (AsIsSays p) (AsIsSays q) lacks_same fault_same before after h

-- ---- the flaws of a block

role_other : (t : BlockType) → (t ≡ types.SectionHeader → ⊥) → (t ≡ types.InterfaceDescription → ⊥) → role_of t ≡ leaves_all
role_other types.SectionHeader section interface = absurd (section refl)
role_other types.InterfaceDescription section interface = absurd (interface refl)
role_other _ section interface = refl

-- The interface that a block adds.
record AddedBy (b : Framed) (flaws : List Said) : Type 0 where
  pub interface : Option Interface
  pub rest : List ℕ
  pub text : InterfaceText (number_in b.endianness) interface flaws b.body rest

added_by : (q : State) (b : Framed) (led : Led) → MeansFor adds_interface q b (good led) → AddedBy b led.flaws
added_by opening b led means = absurd means
added_by (within section interfaces) b led means = record { interface = means.1.interface; rest = means.1.rest; text = means.1.text }

unread : (q : State) (b : Framed) (led : Led) → MeansFor leaves_all q b (good led) → led.flaws ≡ []
unread opening b led means = absurd means
unread (within section interfaces) b led means = means.0

module _ (q : State) (b : Framed) (led : Led) (s : List ℕ) (text : AsIsText q (record { block = b; led = led }) s []) where
  meant : (role : Role) → role_of b.type_ ≡ role → MeansFor role q b (good led)
  meant role is = subst (λ (r : Role). MeansFor r q b (good led)) is text.means

  -- The flaws of a section.
  pub section_of_block : b.type_ ≡ types.SectionHeader → (section : Section) × (rest : List ℕ) × (magic_order section.magic ≡ Some b.endianness) × SectionText section led.flaws b.body rest
  section_of_block is =
      let begun = meant begins_section (ap role_of is) in
      (begun.0, begun.1, section_named (order_at q) b s [] text.frame is begun.0 led.flaws begun.1 begun.2, begun.2)

  -- The flaws of an interface.
  pub interface_of_block : b.type_ ≡ types.InterfaceDescription → (interface : Option Interface) × (rest : List ℕ) × InterfaceText (number_in b.endianness) interface led.flaws b.body rest
  interface_of_block is = let added = added_by q b led (meant adds_interface (ap role_of is)) in (added.interface, added.rest, added.text)

  -- Any other block has none.
  pub none_of_block : (b.type_ ≡ types.SectionHeader → ⊥) → (b.type_ ≡ types.InterfaceDescription → ⊥) → led.flaws ≡ []
  none_of_block section interface = unread q b led (meant leaves_all (role_other b.type_ section interface))
