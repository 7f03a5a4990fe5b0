-- The section and the interfaces in force, and where a block leads ('Section Header Block', 'Interface Description Block').
use Rattle.std.specs.Prelude.{◌≡◌, ◌⊎◌, ◌++◌, ℕ, List, [], ◌∷◌, map, Bool, true, false, Option, Some, None, ⊤, Result, Ok, Err}
use Rattle.pcap_core.specs.declared.common.Endianness.{Endianness}
use Rattle.pcap_core.specs.declared.common.Endianness.TheVariants.{Big}
use Rattle.pcap_core.specs.declared.rules.Rule.TheVariants.{SectionMissing}
use Rattle.pcap_core.specs.declared.errors.PcapError.{PcapError}
use Rattle.pcap_core.specs.Answer.{whole, faulty, Refuses}
use Rattle.pcap_core.specs.Errors.{IsMemory}
use Rattle.pcap_core.specs.Faults.{Invalid}
use Rattle.pcap_items.specs.Headed.{HeadReading, good, bad}
use Rattle.pcap_blocks.specs.declared.block_type.BlockType.{BlockType}
use Rattle.pcap_blocks.specs.declared.block_type.BlockType.TheVariants as types
use Rattle.pcap_blocks.specs.SectionHeader.{Section, section_of, magic_order}
use Rattle.pcap_blocks.specs.InterfaceDescription.{Interface, interface_of}
use Rattle.pcap_blocks.specs.ParsedBlock.{Body, SectionBody, InterfaceBody}
use Rattle.pcap_ng.specs.declared.pcapng.state.InForce.{InForce}
use Rattle.pcap_ng.specs.Bodies.{GrowsInBody, SaysOfBody}
use Rattle.pcap_ng.specs.Frames.{Framed}

-- The state before a block is nothing at the start of a capture, or the section and its interfaces so far.
pub data State : Type 0 where
  opening : State
  within : Section → List Interface → State

-- The interfaces that are in force in a state.
abbrev pub interfaces_at : State → List Interface
interfaces_at opening = []
interfaces_at (within section interfaces) = interfaces

-- This byte order, or big-endian if there is none.
abbrev pub or_big : Option Endianness → Endianness
or_big (Some e) = e
or_big None = Big

-- The byte order in a state of a block that is not a section header.
unfoldable pub order_at : State → Endianness
order_at opening = Big
order_at (within section interfaces) = or_big (magic_order section.magic)

-- The bodies of section headers and interface descriptions are kept in force.
abbrev pub is_kept : BlockType → Bool
is_kept types.SectionHeader = true
is_kept types.InterfaceDescription = true
is_kept _ = false

-- The body of the first block is read with it, and so are the bodies that are kept in force.
abbrev pub is_read : State → BlockType → Bool
is_read opening type = true
is_read (within section interfaces) type = is_kept type

-- A body leads to a state; the first body must be that of a section header.
abbrev pub leads : State → Body → HeadReading State
leads q (SectionBody section) = good (within section [])
leads opening _ = bad (Invalid SectionMissing)
leads (within section interfaces) (InterfaceBody interface) = good (within section (interfaces ++ interface ∷ []))
leads (within section interfaces) _ = good (within section interfaces)

-- The state with one more interface of its section.
abbrev pub with_interface : State → Interface → State
with_interface opening interface = opening
with_interface (within section interfaces) interface = within section (interfaces ++ interface ∷ [])

-- The meaning of a block whose body is read, or is not read, is the state after it or its fault.
abbrev pub MeansIf : Bool → State → Framed → HeadReading State → Type 0
MeansIf true q b (good next) = (body : Body) × (rest : List ℕ) × SaysOfBody b (whole body rest) × (leads q body ≡ good next)
MeansIf true q b (bad fault) =
    SaysOfBody b (faulty fault)
    ⊎ ((body : Body) × (rest : List ℕ) × SaysOfBody b (whole body rest) × (leads q body ≡ bad fault))
MeansIf false q b (good next) = next ≡ q
MeansIf false q b (bad fault) = ⊥

-- The meaning of a block in its frame under a state.
abbrev pub Means : State → Framed → HeadReading State → Type 0
Means q b = MeansIf (is_read q b.type_) q b

-- The state in the code's record of what is in force.
abbrev pub state_in : InForce → State
state_in f = within (section_of f.section) (map interface_of f.interfaces.items)

-- The bodies of blocks of this type are kept in force.
abbrev pub AreKept : BlockType → Type 0
AreKept types.SectionHeader = ⊤
AreKept types.InterfaceDescription = ⊤
AreKept _ = ⊥

-- Blocks of this type are section headers.
abbrev pub IsHeader : BlockType → Type 0
IsHeader types.SectionHeader = ⊤
IsHeader _ = ⊥

-- A whole block needs memory only if its body is kept, or is read and has something that is kept in a list.
abbrev pub CanGrow : State → Framed → Type 0
CanGrow opening b = IsHeader b.type_ ⊎ GrowsInBody b
CanGrow (within section interfaces) b = AreKept b.type_

-- Following a block leads to the new state, or the block is refused and the state stays unchanged.
abbrev pub FollowTells : State → State → Framed → Result (Unit {0}) PcapError → Type 0
FollowTells old new b (Ok x) = Means old b (good new)
FollowTells old new b (Err e) = (new ≡ old) × Refuses (CanGrow old b) (λ n. ⊥) (λ fault. Means old b (bad fault)) e

-- Keeping a body leads to this state, or memory runs out and the state stays unchanged.
abbrev pub Keeps : State → State → State → Result (Unit {0}) PcapError → Type 0
Keeps old new after (Ok x) = new ≡ after
Keeps old new after (Err e) = (new ≡ old) × IsMemory e

-- After a first block its section is in force, or the block is refused.
abbrev pub OpensTells : Framed → Result InForce PcapError → Type 0
OpensTells b (Ok f) = Means opening b (good (state_in f))
OpensTells b (Err e) = Refuses (CanGrow opening b) (λ n. ⊥) (λ fault. Means opening b (bad fault)) e

-- The state stays unchanged unless a block was taken.
abbrev pub StaysUnlessTaken : {X : Type 0} → State → State → Result (Option X) PcapError → Type 0
StaysUnlessTaken old new (Ok (Some x)) = Unit {0}
StaysUnlessTaken old new _ = new ≡ old
