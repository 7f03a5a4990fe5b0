-- The section and interfaces in force in a PcapNg parser, and its reading of one block from a stream.
use Rattle.std.specs.Prelude.{ℕ, List, map, Bool, Option, Result}
use Rattle.pcap_core.specs.declared.errors.PcapError.{PcapError}
use Rattle.pcap_items.specs.Reading.{Pulls}
use Rattle.pcap_blocks.specs.SectionHeader.{Section, section_of}
use Rattle.pcap_blocks.specs.InterfaceDescription.{Interface, interface_of}
use Rattle.pcap_ng.specs.declared.pcapng.block.Block.{Block}
use Rattle.pcap_ng.specs.declared.pcapng.parser.PcapNgParser.{PcapNgParser}
use Rattle.pcap_ng.specs.Blocks.{item_of, block_format}
use Rattle.pcap_ng.specs.State.{State, within}

-- The section in force in a parser.
abbrev pub section_in_force : PcapNgParser → Section
section_in_force parser = section_of parser.in_force.section

-- The interfaces so far of the section in force in a parser.
abbrev pub interfaces_in_force : PcapNgParser → List Interface
interfaces_in_force parser = map interface_of parser.in_force.interfaces.items

-- The state of a parser is the section in force and its interfaces.
abbrev pub state_of : PcapNgParser → State
state_of parser = within (section_in_force parser) (interfaces_in_force parser)

-- One call takes a block from a borrowed stream: it returns the block, nothing exactly at the end of the stream, or an error with
-- its cause. It takes no more than it requested, and doesn't report whether a read failed.
abbrev pub ReadsBlock : State → State → Option (List ℕ) → Option (List ℕ) → Result (Option Block) PcapError → Type 0
ReadsBlock old new before after result = (failed : Bool) × Pulls (block_format.says old) (item_of new) before after failed result
