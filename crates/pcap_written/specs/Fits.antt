-- The options, records and blocks that can be written so that they are read as they were.
use Rattle.std.specs.Prelude.{◌≡◌, ◌≢◌, ◌≤◌, ◌<◌, ◌+◌, ◌^◌, ℕ, List, length, Ok, All, FitsSigned}
use Rattle.std.specs.Int.{w64}
use Rattle.pcap_core.specs.Answer.{Order}
use Rattle.pcap_core.specs.Link.{link_number, IsPlain}
use Rattle.pcap_blocks.specs.declared.block_type.BlockType.TheVariants as types
use Rattle.pcap_blocks.specs.BlockType.{block_type, type_number}
use Rattle.pcap_options.specs.Values.{Entry, Kind, shape_at, string_at, value_of}
use Rattle.pcap_blocks.specs.StoredPacket.{Stored}
use Rattle.pcap_options.specs.SectionOption.{section_header}
use Rattle.pcap_blocks.specs.SectionHeader.{Section}
use Rattle.pcap_options.specs.InterfaceOption.{interface_description}
use Rattle.pcap_blocks.specs.InterfaceDescription.{Interface}
use Rattle.pcap_options.specs.StatisticsOption.{interface_statistics}
use Rattle.pcap_blocks.specs.InterfaceStatistics.{Statistics}
use Rattle.pcap_options.specs.EnhancedOption.{enhanced_packet}
use Rattle.pcap_blocks.specs.EnhancedPacket.{Enhanced}
use Rattle.pcap_options.specs.PacketOption.{packet_kind}
use Rattle.pcap_blocks.specs.Packet.{PacketBody}
use Rattle.pcap_options.specs.Names.{HasNoZero}
use Rattle.pcap_options.specs.Record.{Address, NameRecord, End, Ipv4, Ipv6, Other, form_of, any_value}
use Rattle.pcap_options.specs.NameOption.{name_resolution}
use Rattle.pcap_blocks.specs.NameResolution.{Resolution}
use Rattle.pcap_blocks.specs.UnknownBlock.{UnknownBody}
use Rattle.pcap_blocks.specs.ParsedBlock.{Body, SectionBody, InterfaceBody, OldPacketBody, SimpleBody, NamesBody, StatisticsBody, EnhancedBody, JournalBody, OtherBody}
use Rattle.pcap_core.specs.Codec.{Encoder}
use Rattle.pcap_written.specs.Text.{padded_bytes, option_value}
use Rattle.pcap_written.specs.Bodies.{address_text}

-- The option can be written: the row of its code in the kind's table reads the same value.
pub record IsFitOption (order : Order) (write : Encoder) (kind : Kind) (o : Entry) : Type 0 where
  pub code : o.code < 2 ^ 16
  pub no_mark : o.code ≢ 0
  pub short : length (option_value write kind o) < 2 ^ 16
  pub kept : value_of order (shape_at kind o.code) (option_value write kind o) ≡ Ok o.value

-- All options of the list can be written.
abbrev pub AreFit : Order → Encoder → Kind → List Entry → Type 0
AreFit order write kind = All (IsFitOption order write kind)

-- The section can be written: its numbers fit their fields.
pub record IsFitSection (order : Order) (write : Encoder) (s : Section) : Type 0 where
  pub magic : s.magic < 2 ^ 32
  pub major : s.major_version < 2 ^ 16
  pub minor : s.minor_version < 2 ^ 16
  pub length_fits : FitsSigned w64 s.section_length
  pub options : AreFit order write section_header s.options

-- The interface can be written: the number of its link type fits two bytes, and leads back to the link type.
pub record IsFitInterface (order : Order) (write : Encoder) (i : Interface) : Type 0 where
  pub plain : IsPlain i.linktype
  pub link : link_number i.linktype < 2 ^ 16
  pub reserved : i.reserved < 2 ^ 16
  pub snaplen : i.snaplen < 2 ^ 32
  pub options : AreFit order write interface_description i.options

-- The stored packet can be written: its stored length is the number of its bytes.
pub record IsFitStored (order : Order) (write : Encoder) (kind : Kind) (p : Stored) : Type 0 where
  pub time : p.timestamp < 2 ^ 64
  pub captured : length p.bytes ≡ p.captured_len
  pub captured_fits : p.captured_len < 2 ^ 32
  pub original_fits : p.original_len < 2 ^ 32
  pub options : AreFit order write kind p.options

-- The enhanced packet can be written.
pub record IsFitEnhanced (order : Order) (write : Encoder) (x : Enhanced) : Type 0 where
  pub interface : x.interface_id < 2 ^ 32
  pub packet : IsFitStored order write enhanced_packet x.packet

-- The obsolete packet can be written.
pub record IsFitPacket (order : Order) (write : Encoder) (p : PacketBody) : Type 0 where
  pub interface : p.interface_id < 2 ^ 16
  pub drops : p.drop_count < 2 ^ 16
  pub packet : IsFitStored order write packet_kind p.packet

-- The statistics of an interface can be written.
pub record IsFitStatistics (order : Order) (write : Encoder) (s : Statistics) : Type 0 where
  pub interface : s.interface_id < 2 ^ 32
  pub time : s.timestamp < 2 ^ 64
  pub options : AreFit order write interface_statistics s.options

-- The name can be written: it is a string without a zero byte.
pub record IsFitName (name : List ℕ) : Type 0 where
  pub no_zero : HasNoZero name
  pub string : string_at name ≡ Ok name

-- The address has this width, and its names take at least two bytes: one name, or several if it is empty.
pub record IsFitAddress (width : ℕ) (a : Address) : Type 0 where
  pub wide : length a.bytes ≡ width
  pub names : All IsFitName a.names
  pub some : width + 2 ≤ length (address_text a)
  pub short : length (address_text a) < 2 ^ 16

-- The record of another type can be written: its type has no name, and its length is that of its value.
pub record IsFitOther (type len : ℕ) (v : List ℕ) : Type 0 where
  pub fits : type < 2 ^ 16
  pub unnamed : form_of type ≡ any_value type
  pub whole : len ≡ length v
  pub short : length v < 2 ^ 16

-- The record can be written. The end is none of the records; it is written after them.
abbrev pub IsFitRecord : NameRecord → Type 0
IsFitRecord End = ⊥
IsFitRecord (Ipv4 a) = IsFitAddress 4 a
IsFitRecord (Ipv6 a) = IsFitAddress 16 a
IsFitRecord (Other type len v) = IsFitOther type len v

-- The records and options of a name resolution block can be written.
pub record IsFitResolution (order : Order) (write : Encoder) (b : Resolution) : Type 0 where
  pub records : All IsFitRecord b.records
  pub options : AreFit order write name_resolution b.options

-- The block of an unknown type can be written: its type number has no name, and its length is the number of its bytes.
pub record IsFitUnknown (u : UnknownBody) : Type 0 where
  pub number : type_number u.type_ < 2 ^ 32
  pub unnamed : block_type (type_number u.type_) ≡ types.Unknown (type_number u.type_)
  pub whole : u.len ≡ length u.bytes

-- The body can be written.
abbrev pub IsFitBody : Order → Encoder → Body → Type 0
IsFitBody order write (SectionBody s) = IsFitSection order write s
IsFitBody order write (InterfaceBody i) = IsFitInterface order write i
IsFitBody order write (OldPacketBody p) = IsFitPacket order write p
IsFitBody order write (SimpleBody p) = p.original_len < 2 ^ 32
IsFitBody order write (NamesBody b) = IsFitResolution order write b
IsFitBody order write (StatisticsBody s) = IsFitStatistics order write s
IsFitBody order write (EnhancedBody x) = IsFitEnhanced order write x
IsFitBody order write (JournalBody entry) = Unit {0}
IsFitBody order write (OtherBody u) = IsFitUnknown u

-- The body as a reader gets it: data that extends to the end of a block includes its padding.
abbrev pub kept_body : Body → Body
kept_body (SimpleBody p) = SimpleBody (record { original_len = p.original_len; bytes = padded_bytes p.bytes })
kept_body (JournalBody entry) = JournalBody (padded_bytes entry)
kept_body (OtherBody u) = OtherBody (record { type_ = u.type_; len = length (padded_bytes u.bytes); bytes = padded_bytes u.bytes })
kept_body (SectionBody s) = SectionBody s
kept_body (InterfaceBody i) = InterfaceBody i
kept_body (OldPacketBody p) = OldPacketBody p
kept_body (NamesBody b) = NamesBody b
kept_body (StatisticsBody s) = StatisticsBody s
kept_body (EnhancedBody x) = EnhancedBody x
