-- The types of blocks ('Block Types').
use Rattle.std.specs.Prelude.{◌==◌, if◌then◌else◌, ℕ}
use Rattle.pcap_blocks.specs.declared.block_type.BlockType.{BlockType}
use Rattle.pcap_blocks.specs.declared.block_type.BlockType.TheVariants as types

-- The type of a block, by its number.
abbrev pub block_type : ℕ → BlockType
block_type n =
    if n == 0x0A0D0D0A then types.SectionHeader
    else if n == 1 then types.InterfaceDescription
    else if n == 2 then types.Packet
    else if n == 3 then types.SimplePacket
    else if n == 4 then types.NameResolution
    else if n == 5 then types.InterfaceStatistics
    else if n == 6 then types.EnhancedPacket
    else if n == 9 then types.SystemdJournalExport
    else types.Unknown n

-- The number of a block type.
abbrev pub type_number : BlockType → ℕ
type_number types.SectionHeader = 0x0A0D0D0A
type_number types.InterfaceDescription = 1
type_number types.Packet = 2
type_number types.SimplePacket = 3
type_number types.NameResolution = 4
type_number types.InterfaceStatistics = 5
type_number types.EnhancedPacket = 6
type_number types.SystemdJournalExport = 9
type_number (types.Unknown n) = n
