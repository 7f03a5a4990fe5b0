-- The state and the held bytes of a `BlocksAhead`, which holds blocks one by one.
use Rattle.std.specs.Prelude.{ℕ, List, map}
use Rattle.pcap_items.specs.Held.{held_bytes}
use Rattle.pcap_blocks.specs.SectionHeader.{section_of}
use Rattle.pcap_blocks.specs.InterfaceDescription.{interface_of}
use Rattle.pcap_ng.specs.declared.pcapng.ahead.BlocksAhead.{BlocksAhead}
use Rattle.pcap_ng.specs.State.{State, within}

-- The state of these blocks is the section in force and its interfaces.
abbrev pub state_of : BlocksAhead → State
state_of blocks = within (section_of blocks.in_force.section) (map interface_of blocks.in_force.interfaces.items)

-- The text of these blocks is the bytes that are held.
abbrev pub text_of : BlocksAhead → List ℕ
text_of blocks = held_bytes blocks.held
