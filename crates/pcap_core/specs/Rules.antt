-- The number, the name and the message of each rule.
use Rattle.std.specs.Prelude.{ℕ, List, codes}
use Rattle.pcap_core.specs.declared.rules.Rule.{Rule}
use Rattle.pcap_core.specs.declared.rules.Rule.TheVariants as rules

-- A Row is the entry of a rule in the table of refusals.
pub record Row : Type 0 where
  pub number : ℕ
  pub name : List ℕ
  pub message : List ℕ

abbrev pub row_of : Rule → Row
row_of rules.CaptureMagic = record { number = 1; name = codes "CaptureMagic"; message = codes "PcapHeader wrong magic number" }
row_of rules.FractionTooLarge = record { number = 2; name = codes "FractionTooLarge"; message = codes "PacketHeader ts_usec * 1000 > 0xFFFFFFFF" }
row_of rules.IncludedTooLong = record { number = 3; name = codes "IncludedTooLong"; message = codes "PacketHeader incl_len > 0x40000" }
row_of rules.OriginalTooLong = record { number = 4; name = codes "OriginalTooLong"; message = codes "PacketHeader orig_len > 0x40000" }
row_of rules.IncludedPastOriginal = record { number = 5; name = codes "IncludedPastOriginal"; message = codes "PacketHeader incl_len > orig_len" }
row_of rules.SectionMagic = record { number = 6; name = codes "SectionMagic"; message = codes "SectionHeaderBlock: invalid magic number" }
row_of rules.BlockUnaligned = record { number = 7; name = codes "BlockUnaligned"; message = codes "Block: (initial_len % 4) != 0" }
row_of rules.BlockTooShort = record { number = 8; name = codes "BlockTooShort"; message = codes "Block: initial_len < 12" }
row_of rules.BlockLengthsDiffer = record { number = 9; name = codes "BlockLengthsDiffer"; message = codes "Block initial_length != trailer_length" }
row_of rules.SectionMissing = record { number = 10; name = codes "SectionMissing"; message = codes "SectionHeader missing" }
row_of rules.SectionTooShort = record { number = 11; name = codes "SectionTooShort"; message = codes "SectionHeaderBlock: block length < 16" }
row_of rules.InterfaceTooShort = record { number = 12; name = codes "InterfaceTooShort"; message = codes "InterfaceDescriptionBlock: block length < 8" }
row_of rules.EnhancedTooShort = record { number = 13; name = codes "EnhancedTooShort"; message = codes "EnhancedPacketBlock: block length length < 20" }
row_of rules.EnhancedCut = record { number = 14; name = codes "EnhancedCut"; message = codes "EnhancedPacketBlock: captured_len + padding > block length" }
row_of rules.SimpleTooShort = record { number = 15; name = codes "SimpleTooShort"; message = codes "SimplePacketBlock: block length < 4" }
row_of rules.StatisticsTooShort = record { number = 16; name = codes "StatisticsTooShort"; message = codes "InterfaceStatisticsBlock: block length < 12" }
row_of rules.OptionTooShort = record { number = 17; name = codes "OptionTooShort"; message = codes "Option: slice.len() < 4" }
row_of rules.OptionCut = record { number = 18; name = codes "OptionCut"; message = codes "Option: length + pad.len() > slice.len()" }
row_of rules.InterfaceIpv4Length = record { number = 1901; name = codes "InterfaceIpv4Length"; message = codes "InterfaceDescriptionOption: IfIpv4Addr length != 8" }
row_of rules.InterfaceIpv6Length = record { number = 1902; name = codes "InterfaceIpv6Length"; message = codes "InterfaceDescriptionOption: IfIpv6Addr length != 17" }
row_of rules.InterfaceMacLength = record { number = 1903; name = codes "InterfaceMacLength"; message = codes "InterfaceDescriptionOption: IfMacAddr length != 6" }
row_of rules.InterfaceEuiLength = record { number = 1904; name = codes "InterfaceEuiLength"; message = codes "InterfaceDescriptionOption: IfEuIAddr length != 8" }
row_of rules.InterfaceSpeedLength = record { number = 1905; name = codes "InterfaceSpeedLength"; message = codes "InterfaceDescriptionOption: IfSpeed length != 8" }
row_of rules.InterfaceResolutionLength = record { number = 1906; name = codes "InterfaceResolutionLength"; message = codes "InterfaceDescriptionOption: IfTsResol length != 1" }
row_of rules.InterfaceZoneLength = record { number = 1907; name = codes "InterfaceZoneLength"; message = codes "InterfaceDescriptionOption: IfTzone length != 4" }
row_of rules.InterfaceFilterEmpty = record { number = 1908; name = codes "InterfaceFilterEmpty"; message = codes "InterfaceDescriptionOption: IfFilter is empty" }
row_of rules.InterfaceFcsLength = record { number = 1909; name = codes "InterfaceFcsLength"; message = codes "InterfaceDescriptionOption: IfFcsLen length != 1" }
row_of rules.InterfaceOffsetLength = record { number = 1910; name = codes "InterfaceOffsetLength"; message = codes "InterfaceDescriptionOption: IfTsOffset length != 8" }
row_of rules.EnhancedFlagsLength = record { number = 1911; name = codes "EnhancedFlagsLength"; message = codes "EnhancedPacketOption: Flags length != 4" }
row_of rules.EnhancedDropCountLength = record { number = 1912; name = codes "EnhancedDropCountLength"; message = codes "EnhancedPacketOption: DropCount length != 8" }
row_of rules.PacketFlagsLength = record { number = 1913; name = codes "PacketFlagsLength"; message = codes "PacketOption: Flags length != 4" }
row_of rules.NameIpv4Length = record { number = 1914; name = codes "NameIpv4Length"; message = codes "NameResolutionOption: NsDnsIpv4Addr length != 4" }
row_of rules.NameIpv6Length = record { number = 1915; name = codes "NameIpv6Length"; message = codes "NameResolutionOption: NsDnsIpv6Addr length != 16" }
row_of rules.RecordCut = record { number = 20; name = codes "RecordCut"; message = codes "NameResolutionBlock: Record length > slice.len()" }
row_of rules.EndNotEmpty = record { number = 21; name = codes "EndNotEmpty"; message = codes "NameResolutionBlock: nrb_record_end length != 0" }
row_of rules.Ipv4RecordTooShort = record { number = 22; name = codes "Ipv4RecordTooShort"; message = codes "NameResolutionBlock: Ipv4Record len < 6" }
row_of rules.Ipv6RecordTooShort = record { number = 23; name = codes "Ipv6RecordTooShort"; message = codes "NameResolutionBlock: Ipv6Record len < 18" }
row_of rules.NameUnended = record { number = 24; name = codes "NameUnended"; message = codes "Non null terminated string" }
row_of rules.RecordUnpadded = record { number = 25; name = codes "RecordUnpadded"; message = codes "NameResolutionBlock: Record padding > slice.len()" }
row_of rules.UnknownTooLong = record { number = 26; name = codes "UnknownTooLong"; message = codes "UnknownBlock: length > 0xFFFFFFFF" }

-- number_of gives the number of a rule in the table of refusals.
abbrev pub number_of : Rule → ℕ
number_of rule = (row_of rule).number

-- name_of gives the name of a rule, spelled as the variant.
abbrev pub name_of : Rule → List ℕ
name_of rule = (row_of rule).name
