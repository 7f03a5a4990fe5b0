-- The section and the interfaces in force in lenient reading, and the state that a block leads to ('Section Header Block', 'Interface
-- Description Block').
use Rattle.std.specs.Prelude.{◌≡◌, ℕ, List, [], map, Option, ⊤, Result, Ok, Err}
use Rattle.std.specs.Global.{Vec}
use Rattle.pcap_core.specs.declared.common.Endianness.{Endianness}
use Rattle.pcap_core.specs.declared.errors.PcapError.{PcapError}
use Rattle.pcap_core.specs.declared.rules.Rule.TheVariants.{SectionMissing}
use Rattle.pcap_core.specs.Answer.{number_in, Refuses}
use Rattle.pcap_core.specs.Faults.{Invalid}
use Rattle.pcap_items.specs.Headed.{HeadReading, good, bad}
use Rattle.pcap_blocks.specs.declared.block_type.BlockType.{BlockType}
use Rattle.pcap_blocks.specs.declared.block_type.BlockType.TheVariants as types
use Rattle.pcap_blocks.specs.declared.section_header.SectionHeaderBlock.{SectionHeaderBlock}
use Rattle.pcap_blocks.specs.SectionHeader.{Section, section_of}
use Rattle.pcap_blocks.specs.InterfaceDescription.{Interface}
use Rattle.pcap_ng.specs.Frames.{Framed}
use Rattle.pcap_ng.specs.State as strict
use Rattle.pcap_tolerant_blocks.specs.declared.flaws.Flaw.{Flaw}
use Rattle.pcap_tolerant_blocks.specs.Flaws.{Said, said_of}
use Rattle.pcap_tolerant_blocks.specs.InForce.{Adds, in_force}
use Rattle.pcap_tolerant_blocks.specs.SectionAsIs.{SectionText, NoSection}
use Rattle.pcap_tolerant_captures.specs.declared.parser.PcapNgParserAsIs.{PcapNgParserAsIs}

-- The state before a block: nothing yet, or the section and its interfaces so far, of which some may have no head.
pub data State : Type 0 where
  opening : State
  within : Section → List (Option Interface) → State

-- The byte order of a block that is no section header, which only the section states.
abbrev pub order_at : State → Endianness
order_at opening = strict.order_at strict.opening
order_at (within section interfaces) = strict.order_at (strict.within section [])

-- The effect of a block on the state of the blocks behind it.
pub data Role : Type 0 where
  begins_section : Role
  adds_interface : Role
  leaves_all : Role

abbrev pub role_of : BlockType → Role
role_of types.SectionHeader = begins_section
role_of types.InterfaceDescription = adds_interface
role_of _ = leaves_all

-- The flaws of a block's body, and the state after the block.
pub record Led : Type 0 where
  pub flaws : List Said
  pub after : State

-- The meaning of a block by its role: a section is in force if it names its byte order, an interface always is, and the first block must
-- be a section header.
abbrev pub MeansFor : Role → State → Framed → HeadReading Led → Type 0
MeansFor begins_section q b (good led) = (section : Section) × (rest : List ℕ) × SectionText section led.flaws b.body rest × (led.after ≡ within section [])
MeansFor begins_section q b (bad fault) = NoSection b.body fault
MeansFor adds_interface (within section interfaces) b (good led) = (all : List (Option Interface)) × Adds (number_in b.endianness) b.body led.flaws interfaces all × (led.after ≡ within section all)
MeansFor leaves_all (within section interfaces) b (good led) = (led.flaws ≡ []) × (led.after ≡ within section interfaces)
MeansFor role (within section interfaces) b (bad fault) = ⊥
MeansFor role opening b (good led) = ⊥
MeansFor role opening b (bad fault) = fault ≡ Invalid SectionMissing

-- The meaning of a block in its frame under a state.
abbrev pub Means : State → Framed → HeadReading Led → Type 0
Means q b = MeansFor (role_of b.type_) q b

-- A whole block needs memory only if its body is kept.
abbrev pub CanGrow : State → Framed → Type 0
CanGrow opening b = strict.IsHeader b.type_
CanGrow (within section interfaces) b = strict.AreKept b.type_

-- ---- the state of the code

-- The section in force.
abbrev pub section_in_force : PcapNgParserAsIs → Section
section_in_force parser = section_of parser.section

-- The interfaces in force so far.
abbrev pub interfaces_in_force : PcapNgParserAsIs → List (Option Interface)
interfaces_in_force parser = in_force parser.interfaces

-- The section and interfaces in force.
abbrev pub state_of : PcapNgParserAsIs → State
state_of parser = within (section_in_force parser) (interfaces_in_force parser)

-- The flaws that the code returned, and the state that a block leads to.
abbrev pub led_to : State → List Flaw → Led
led_to after flaws = record { flaws = map said_of flaws; after = after }

-- The result of reading a section's body: the section, which names an order, with its flaws, or the reason why it names none.
abbrev pub SectionTells : List ℕ → Result (SectionHeaderBlock × Vec Flaw) PcapError → Type 0
SectionTells s (Ok x) = (rest : List ℕ) × SectionText (section_of x.0) (map said_of x.1.items) s rest
SectionTells s (Err e) = Refuses ⊤ (λ n. ⊥) (NoSection s) e

-- The result of reading the first block's body: the state after it, or the reason why it is refused.
abbrev pub FirstTells : Framed → Result (SectionHeaderBlock × Vec Flaw) PcapError → Type 0
FirstTells b (Ok x) = Means opening b (good (led_to (within (section_of x.0) []) x.1.items))
FirstTells b (Err e) = Refuses (CanGrow opening b) (λ n. ⊥) (λ fault. Means opening b (bad fault)) e

-- The result of following a block: it leads to the new state, or it is refused and the state stays the same.
abbrev pub FollowTells : State → State → Framed → Result (Vec Flaw) PcapError → Type 0
FollowTells old new b (Ok flaws) = Means old b (good (led_to new flaws.items))
FollowTells old new b (Err e) = (new ≡ old) × Refuses (CanGrow old b) (λ n. ⊥) (λ fault. Means old b (bad fault)) e
