-- The byte order and the clocks of the current section.
use Rattle.std.specs.Prelude.{◌≡◌, ℕ, List, [], ◌∷◌, ◌++◌, Option, None, Some}
use Rattle.std.specs.List.{AllZip}
use Rattle.pcap_core.specs.declared.common.Endianness.{Endianness}
use Rattle.pcap_times.specs.declared.clock.Clock.{Clock}
use Rattle.pcap_times.specs.declared.clock.Timestamp.{Timestamp}
use Rattle.pcap_times.specs.Times.{IsTimeOf}
use Rattle.pcap_blocks.specs.declared.block_type.BlockType.{BlockType}
use Rattle.pcap_blocks.specs.declared.block_type.BlockType.TheVariants as types
use Rattle.pcap_blocks.specs.InterfaceDescription.{Interface}
use Rattle.pcap_blocks.specs.InterfaceTimes.{IsClockOf}
use Rattle.pcap_blocks.specs.SectionHeader.{Section}
use Rattle.pcap_ng.specs.State.{State, opening, within, order_at}
use Rattle.pcapfile_info.specs.declared.clocks.Clocks.{Clocks}

-- The order is that of the current section, and each of its interfaces has its clock.
abbrev pub OrderAndClocks : Endianness → List Clock → State → Type 0
OrderAndClocks order clocks opening = ⊥
OrderAndClocks order clocks (within section interfaces) = (order ≡ order_at (within section interfaces)) × AllZip IsClockOf interfaces clocks

-- These clocks have the order of the current section, and a clock for each of its interfaces.
abbrev pub AreInForce : Clocks → State → Type 0
AreInForce clocks q = OrderAndClocks clocks.order clocks.clocks.items q

-- A block of this type leads from one state to another: a new section, one more interface, or the same state.
abbrev pub LeadsOn : BlockType → State → State → Type 0
LeadsOn types.SectionHeader before after = (section : Section) × (after ≡ within section [])
LeadsOn types.InterfaceDescription opening after = ⊥
LeadsOn types.InterfaceDescription (within section interfaces) after = (interface : Interface) × (after ≡ within section (interfaces ++ interface ∷ []))
LeadsOn _ before after = after ≡ before

-- The timestamp is this many units of the clock; without a clock there is none.
abbrev pub IsClocked : Option Clock → ℕ → Option Timestamp → Type 0
IsClocked (Some clock) units (Some time) = IsTimeOf clock units time
IsClocked (Some clock) units None = ⊥
IsClocked None units time = time ≡ None
