-- The body of a block of any type.
use Rattle.std.specs.Prelude.{ℕ, List, Option, Some, None}
use Rattle.pcap_core.specs.Answer.{Order, Verdict, Made}
use Rattle.pcap_blocks.specs.declared.block_type.BlockType.{BlockType}
use Rattle.pcap_blocks.specs.declared.block_type.BlockType.TheVariants as types
use Rattle.pcap_blocks.specs.declared.parsed_block.ParsedBlock.{ParsedBlock}
use Rattle.pcap_blocks.specs.declared.parsed_block.ParsedBlock.TheVariants as block_of
use Rattle.pcap_blocks.specs.declared.section_header.SectionHeaderBlock.{SectionHeaderBlock}
use Rattle.pcap_blocks.specs.declared.interface_description.InterfaceDescriptionBlock.{InterfaceDescriptionBlock}
use Rattle.pcap_blocks.specs.SectionHeader.{Section, SectionSays, SectionMayGrow, section_of, SectionIsBorrowed, SectionIsOwned, SectionNeedsNoMemory}
use Rattle.pcap_blocks.specs.InterfaceDescription.{Interface, InterfaceSays, InterfaceMayGrow, interface_of, InterfaceIsBorrowed, InterfaceIsOwned, InterfaceNeedsNoMemory}
use Rattle.pcap_blocks.specs.Packet.{PacketBody, PacketBodySays, PacketBodyMayGrow, packet_of, PacketIsBorrowed, PacketIsOwned, PacketNeedsNoMemory}
use Rattle.pcap_blocks.specs.NameResolution.{Resolution, ResolutionSays, ResolutionMayGrow, names_of, ResolutionIsBorrowed, ResolutionIsOwned, ResolutionNeedsNoMemory}
use Rattle.pcap_blocks.specs.InterfaceStatistics.{Statistics, StatisticsSays, StatisticsMayGrow, statistics_of, StatisticsIsBorrowed, StatisticsIsOwned, StatisticsNeedsNoMemory}
use Rattle.pcap_blocks.specs.EnhancedPacket.{Enhanced, EnhancedSays, EnhancedMayGrow, enhanced_of, EnhancedIsBorrowed, EnhancedIsOwned, EnhancedNeedsNoMemory}
use Rattle.pcap_blocks.specs.SimplePacket.{Simple, SimpleSays, simple_of, SimpleIsBorrowed, SimpleIsOwned}
use Rattle.pcap_blocks.specs.SystemdJournalExport.{JournalSays, journal_of, JournalIsBorrowed, JournalIsOwned}
use Rattle.pcap_blocks.specs.UnknownBlock.{UnknownBody, UnknownSays, unknown_of, UnknownBlockIsBorrowed, UnknownBlockIsOwned}

-- The body of a block, wherever its bytes are in memory.
pub data Body : Type 0 where
  SectionBody : Section → Body
  InterfaceBody : Interface → Body
  OldPacketBody : PacketBody → Body
  SimpleBody : Simple → Body
  NamesBody : Resolution → Body
  StatisticsBody : Statistics → Body
  EnhancedBody : Enhanced → Body
  JournalBody : List ℕ → Body
  OtherBody : UnknownBody → Body

-- BodySays order type s verdict: `s` read as the body of a block of this type gives this verdict; a section has its own byte order.
abbrev pub BodySays : Order → BlockType → List ℕ → Verdict Body → Type 0
BodySays order types.SectionHeader s = Made SectionBody (SectionSays s)
BodySays order types.InterfaceDescription s = Made InterfaceBody (InterfaceSays order s)
BodySays order types.Packet s = Made OldPacketBody (PacketBodySays order s)
BodySays order types.SimplePacket s = Made SimpleBody (SimpleSays order s)
BodySays order types.NameResolution s = Made NamesBody (ResolutionSays order s)
BodySays order types.InterfaceStatistics s = Made StatisticsBody (StatisticsSays order s)
BodySays order types.EnhancedPacket s = Made EnhancedBody (EnhancedSays order s)
BodySays order types.SystemdJournalExport s = Made JournalBody (JournalSays s)
BodySays order (types.Unknown n) s = Made OtherBody (UnknownSays (types.Unknown n) s)

-- Reading the body of a block of this type may allocate only if the body has something that is kept in a list.
abbrev pub BodyMayGrow : Order → BlockType → List ℕ → Type 0
BodyMayGrow order types.SectionHeader s = SectionMayGrow s
BodyMayGrow order types.InterfaceDescription s = InterfaceMayGrow order s
BodyMayGrow order types.Packet s = PacketBodyMayGrow order s
BodyMayGrow order types.SimplePacket s = ⊥
BodyMayGrow order types.NameResolution s = ResolutionMayGrow order s
BodyMayGrow order types.InterfaceStatistics s = StatisticsMayGrow order s
BodyMayGrow order types.EnhancedPacket s = EnhancedMayGrow order s
BodyMayGrow order types.SystemdJournalExport s = ⊥
BodyMayGrow order (types.Unknown n) s = ⊥

-- The body of a block in the code.
abbrev pub body_of : ParsedBlock → Body
body_of (block_of.SectionHeader b) = SectionBody (section_of b)
body_of (block_of.InterfaceDescription b) = InterfaceBody (interface_of b)
body_of (block_of.Packet b) = OldPacketBody (packet_of b)
body_of (block_of.SimplePacket b) = SimpleBody (simple_of b)
body_of (block_of.NameResolution b) = NamesBody (names_of b)
body_of (block_of.InterfaceStatistics b) = StatisticsBody (statistics_of b)
body_of (block_of.EnhancedPacket b) = EnhancedBody (enhanced_of b)
body_of (block_of.SystemdJournalExport b) = JournalBody (journal_of b)
body_of (block_of.Unknown b) = OtherBody (unknown_of b)

-- All strings and bytes of the block are borrowed.
abbrev pub ParsedIsBorrowed : ParsedBlock → Type 0
ParsedIsBorrowed (block_of.SectionHeader b) = SectionIsBorrowed b
ParsedIsBorrowed (block_of.InterfaceDescription b) = InterfaceIsBorrowed b
ParsedIsBorrowed (block_of.Packet b) = PacketIsBorrowed b
ParsedIsBorrowed (block_of.SimplePacket b) = SimpleIsBorrowed b
ParsedIsBorrowed (block_of.NameResolution b) = ResolutionIsBorrowed b
ParsedIsBorrowed (block_of.InterfaceStatistics b) = StatisticsIsBorrowed b
ParsedIsBorrowed (block_of.EnhancedPacket b) = EnhancedIsBorrowed b
ParsedIsBorrowed (block_of.SystemdJournalExport b) = JournalIsBorrowed b
ParsedIsBorrowed (block_of.Unknown b) = UnknownBlockIsBorrowed b

-- All strings and bytes of the block are owned.
abbrev pub ParsedIsOwned : ParsedBlock → Type 0
ParsedIsOwned (block_of.SectionHeader b) = SectionIsOwned b
ParsedIsOwned (block_of.InterfaceDescription b) = InterfaceIsOwned b
ParsedIsOwned (block_of.Packet b) = PacketIsOwned b
ParsedIsOwned (block_of.SimplePacket b) = SimpleIsOwned b
ParsedIsOwned (block_of.NameResolution b) = ResolutionIsOwned b
ParsedIsOwned (block_of.InterfaceStatistics b) = StatisticsIsOwned b
ParsedIsOwned (block_of.EnhancedPacket b) = EnhancedIsOwned b
ParsedIsOwned (block_of.SystemdJournalExport b) = JournalIsOwned b
ParsedIsOwned (block_of.Unknown b) = UnknownBlockIsOwned b

-- The section of a block, if the block is a section header.
abbrev pub section_in : ParsedBlock → Option SectionHeaderBlock
section_in (block_of.SectionHeader b) = Some b
section_in _ = None

-- The interface of a block, if the block is an interface description.
abbrev pub interface_in : ParsedBlock → Option InterfaceDescriptionBlock
interface_in (block_of.InterfaceDescription b) = Some b
interface_in _ = None

-- Making a block owned takes no memory: all its strings and bytes are owned, and it has no list to build anew.
abbrev pub ParsedNeedsNoMemory : ParsedBlock → Type 0
ParsedNeedsNoMemory (block_of.SectionHeader b) = SectionNeedsNoMemory b
ParsedNeedsNoMemory (block_of.InterfaceDescription b) = InterfaceNeedsNoMemory b
ParsedNeedsNoMemory (block_of.Packet b) = PacketNeedsNoMemory b
ParsedNeedsNoMemory (block_of.SimplePacket b) = SimpleIsOwned b
ParsedNeedsNoMemory (block_of.NameResolution b) = ResolutionNeedsNoMemory b
ParsedNeedsNoMemory (block_of.InterfaceStatistics b) = StatisticsNeedsNoMemory b
ParsedNeedsNoMemory (block_of.EnhancedPacket b) = EnhancedNeedsNoMemory b
ParsedNeedsNoMemory (block_of.SystemdJournalExport b) = JournalIsOwned b
ParsedNeedsNoMemory (block_of.Unknown b) = UnknownBlockIsOwned b
