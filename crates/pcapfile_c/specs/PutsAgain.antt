-- How written blocks are read again.
use Rattle.std.specs.Prelude.{◌≡◌, ℕ, List, [], ◌∷◌, ◌++◌}
use Rattle.pcap_blocks.specs.ParsedBlock.{Body, SectionBody, InterfaceBody, EnhancedBody}
use Rattle.pcap_written.specs.Mixed.{Written, of_bytes, of_value}
use Rattle.pcap_ng.specs.Blocks.{Item}
use Rattle.pcap_ng.specs.Written.{IsReadable}
use Rattle.pcap_ng.specs.Written.{IsReadAs as IsRead}
use Rattle.pcapfile_values.specs.declared.blocks.PcapfileSection.{PcapfileSection}
use Rattle.pcapfile_values.specs.declared.bodies.PcapfileInterface.{PcapfileInterface}
use Rattle.pcapfile_values.specs.Blocks.{ShowsSection}
use Rattle.pcapfile_values.specs.Bodies.{ShowsInterfaceOf, ShowsPacket, base_of, unit_shown}
use Rattle.pcapfile_c.specs.Putting.{Given, IsBlockOf, IsTextOf, a_section, a_section_with, an_interface, a_packet}

-- The section that a call gets: for a section header the passed one, and otherwise the current one.
abbrev pub section_given : PcapfileSection → Given → PcapfileSection
section_given section (a_section shown) = shown
section_given section (a_section_with shown os) = shown
section_given section _ = section

-- The bytes are what calls wrote one after the other, each with the section that the call before it left. The options of each section header
-- and each interface that has options of the program can be read.
abbrev pub ArePut : PcapfileSection → List Given → List ℕ → Type 0
ArePut section [] bytes = bytes ≡ []
ArePut section (given ∷ others) bytes =
    (next : PcapfileSection) × (text : List ℕ) × (more : List ℕ) × (one : IsTextOf given (section_given section given) next text) × IsReadable one.block
    × (bytes ≡ text ++ more) × ArePut next others more

-- The struct of an interface with the base of its unit: 2, or 10 for any other base.
abbrev pub with_base : PcapfileInterface → PcapfileInterface
with_base shown = record shown { ts_base = base_of (unit_shown shown.ts_base shown.ts_exponent) }

-- The body is what the passed struct shows: a section, an interface with its base, or an enhanced packet.
abbrev pub IsShownBy : Body → Given → Type 0
IsShownBy (SectionBody section) (a_section shown) = ShowsSection shown section
IsShownBy (InterfaceBody interface) (an_interface shown) = ShowsInterfaceOf interface (with_base shown)
IsShownBy (EnhancedBody b) (a_packet p) = ShowsPacket (EnhancedBody b) (record p { type_ = 6 })
IsShownBy _ _ = ⊥

-- The block is the one that is written for what was passed: a value that the struct shows, or a block of bytes.
abbrev pub IsWrittenFor : Given → Written → Type 0
IsWrittenFor given (of_value body) = IsShownBy body given
IsWrittenFor given (of_bytes raw) = (section : PcapfileSection) × IsBlockOf given section raw.endianness (of_bytes raw)

-- A reader reads the block as what was passed to the call that wrote it.
abbrev pub IsReadAs : Item → Given → Type 0
IsReadAs item given = (block : Written) × IsRead item block × IsWrittenFor given block
