-- The bytes of the bodies of blocks, as they are written.
use Rattle.std.specs.Prelude.{◌+◌, ℕ, List, [], ◌∷◌, ◌++◌, length, Option, Some, None}
use Rattle.std.specs.Int.{w64, cast_unsigned}
use Rattle.std.specs.List.{flat_map}
use Rattle.byteorder.specs.Endian.{big_bytes}
use Rattle.pcap_core.specs.declared.common.Endianness.{Endianness}
use Rattle.pcap_core.specs.Link.{link_number}
use Rattle.pcap_blocks.specs.declared.block_type.BlockType.{BlockType}
use Rattle.pcap_blocks.specs.declared.block_type.BlockType.TheVariants as types
use Rattle.pcap_blocks.specs.BlockType.{type_number}
use Rattle.pcap_options.specs.Values.{Kind}
use Rattle.pcap_blocks.specs.StoredPacket.{Stored}
use Rattle.pcap_options.specs.SectionOption.{section_header}
use Rattle.pcap_blocks.specs.SectionHeader.{Section, magic_order}
use Rattle.pcap_options.specs.InterfaceOption.{interface_description}
use Rattle.pcap_blocks.specs.InterfaceDescription.{Interface}
use Rattle.pcap_options.specs.StatisticsOption.{interface_statistics}
use Rattle.pcap_blocks.specs.InterfaceStatistics.{Statistics}
use Rattle.pcap_options.specs.EnhancedOption.{enhanced_packet}
use Rattle.pcap_blocks.specs.EnhancedPacket.{Enhanced}
use Rattle.pcap_options.specs.PacketOption.{packet_kind}
use Rattle.pcap_blocks.specs.Packet.{PacketBody}
use Rattle.pcap_blocks.specs.SimplePacket.{Simple}
use Rattle.pcap_options.specs.NameOption.{name_resolution}
use Rattle.pcap_blocks.specs.NameResolution.{Resolution}
use Rattle.pcap_options.specs.Record.{Address, NameRecord, End, Ipv4, Ipv6, Other}
use Rattle.pcap_blocks.specs.ParsedBlock.{Body, SectionBody, InterfaceBody, OldPacketBody, SimpleBody, NamesBody, StatisticsBody, EnhancedBody, JournalBody, OtherBody}
use Rattle.pcap_written.specs.declared.block.BlockHead.{BlockHead}
use Rattle.pcap_core.specs.Codec.{Encoder}
use Rattle.pcap_written.specs.Text.{padded_bytes, time_bytes, coded_bytes, list_text}

-- The version and the length of a section, and its options ('Section Header Block').
abbrev pub after_magic_text : Encoder → Section → List ℕ
after_magic_text write s =
    write 2 s.major_version ++ (write 2 s.minor_version ++ (write 8 (cast_unsigned w64 s.section_length) ++ list_text write section_header s.options))

-- A section: its magic number, high byte first, and then its version, length and options ('Section Header Block').
abbrev pub section_text : Encoder → Section → List ℕ
section_text write s = big_bytes 4 s.magic ++ after_magic_text write s

-- An interface ('Interface Description Block').
abbrev pub interface_text : Encoder → Interface → List ℕ
interface_text write i = write 2 (link_number i.linktype) ++ (write 2 i.reserved ++ (write 4 i.snaplen ++ list_text write interface_description i.options))

-- The timestamp and the two lengths of a packet.
abbrev pub packet_head_text : Encoder → ℕ → ℕ → ℕ → List ℕ
packet_head_text write timestamp captured_len original_len = time_bytes write timestamp ++ (write 4 captured_len ++ write 4 original_len)

-- A stored packet: its timestamp and lengths, its data with padding, and its options.
abbrev pub stored_text : Encoder → Kind → Stored → List ℕ
stored_text write kind p = packet_head_text write p.timestamp p.captured_len p.original_len ++ (padded_bytes p.bytes ++ list_text write kind p.options)

-- An enhanced packet ('Enhanced Packet Block').
abbrev pub enhanced_text : Encoder → Enhanced → List ℕ
enhanced_text write x = write 4 x.interface_id ++ stored_text write enhanced_packet x.packet

-- An obsolete packet ('Packet Block').
abbrev pub packet_text : Encoder → PacketBody → List ℕ
packet_text write p = write 2 p.interface_id ++ (write 2 p.drop_count ++ stored_text write packet_kind p.packet)

-- A simple packet ('Simple Packet Block').
abbrev pub simple_text : Encoder → Simple → List ℕ
simple_text write p = write 4 p.original_len ++ padded_bytes p.bytes

-- The statistics of an interface ('Interface Statistics Block').
abbrev pub statistics_text : Encoder → Statistics → List ℕ
statistics_text write s = write 4 s.interface_id ++ (time_bytes write s.timestamp ++ list_text write interface_statistics s.options)

-- A name, and a zero byte ('Name Resolution Block').
abbrev pub name_text : List ℕ → List ℕ
name_text name = name ++ 0 ∷ []

-- An address, and its names ('Name Resolution Block').
abbrev pub address_text : Address → List ℕ
address_text a = a.bytes ++ flat_map name_text a.names

-- A record of an address, of another type, or the end of the records ('Name Resolution Block').
abbrev pub record_text : Encoder → NameRecord → List ℕ
record_text write End = coded_bytes write 0 []
record_text write (Ipv4 a) = coded_bytes write 1 (address_text a)
record_text write (Ipv6 a) = coded_bytes write 2 (address_text a)
record_text write (Other type len v) = coded_bytes write type v

-- The records, their end, and the options ('Name Resolution Block').
abbrev pub resolution_text : Encoder → Resolution → List ℕ
resolution_text write b = flat_map (record_text write) b.records ++ (record_text write End ++ list_text write name_resolution b.options)

-- The bytes of the body of a block.
abbrev pub body_text : Encoder → Body → List ℕ
body_text write (SectionBody s) = section_text write s
body_text write (InterfaceBody i) = interface_text write i
body_text write (OldPacketBody p) = packet_text write p
body_text write (SimpleBody p) = simple_text write p
body_text write (NamesBody b) = resolution_text write b
body_text write (StatisticsBody s) = statistics_text write s
body_text write (EnhancedBody x) = enhanced_text write x
body_text write (JournalBody entry) = padded_bytes entry
body_text write (OtherBody u) = padded_bytes u.bytes

-- The type of a block, by its body.
abbrev pub type_of : Body → BlockType
type_of (SectionBody s) = types.SectionHeader
type_of (InterfaceBody i) = types.InterfaceDescription
type_of (OldPacketBody p) = types.Packet
type_of (SimpleBody p) = types.SimplePacket
type_of (NamesBody b) = types.NameResolution
type_of (StatisticsBody s) = types.InterfaceStatistics
type_of (EnhancedBody x) = types.EnhancedPacket
type_of (JournalBody entry) = types.SystemdJournalExport
type_of (OtherBody u) = u.type_

-- The magic number of a block that is a section.
abbrev pub magic_in : Body → Option ℕ
magic_in (SectionBody s) = Some s.magic
magic_in _ = None

-- The interface that a block refers to, by its number in the section.
abbrev pub interface_in : Body → Option ℕ
interface_in (OldPacketBody p) = Some p.interface_id
interface_in (StatisticsBody s) = Some s.interface_id
interface_in (EnhancedBody x) = Some x.interface_id
interface_in _ = None

-- The type, magic number and interface of a block, which the writer needs before it writes the body.
abbrev pub head_of : Body → BlockHead
head_of body = record { type_ = type_of body; magic = magic_in body; interface_id = interface_in body }

-- The byte order in which a block is written: the current one, or a section's own by its magic number.
abbrev pub order_under : Endianness → Option ℕ → Option Endianness
order_under current None = Some current
order_under current (Some magic) = magic_order magic

-- A block of this type number: the number, the length of the whole block, the body, and the length again ('General Block Structure').
abbrev pub block_text : Encoder → ℕ → List ℕ → List ℕ
block_text write type body = write 4 type ++ (write 4 (length body + 12) ++ (body ++ write 4 (length body + 12)))

-- The bytes of a whole block.
abbrev pub text_of : Encoder → Body → List ℕ
text_of write body = block_text write (type_number (type_of body)) (body_text write body)
