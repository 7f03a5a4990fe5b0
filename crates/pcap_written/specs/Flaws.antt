-- The reasons why a block can't be written.
use Rattle.std.specs.Prelude.{◌≡◌, ◌≢◌, ◌≤◌, ◌<◌, ◌+◌, ◌^◌, ◌⊎◌, ℕ, List, length, Result, Ok, Err, Any, codes}
use Rattle.pcap_core.specs.Answer.{Order}
use Rattle.pcap_core.specs.declared.rules.Rule.{Rule}
use Rattle.pcap_core.specs.declared.rules.Rule.TheVariants.{Ipv4RecordTooShort, Ipv6RecordTooShort}
use Rattle.pcap_core.specs.Faults.{Invalid, rule_message}
use Rattle.pcap_core.specs.declared.link.DataLink.{DataLink}
use Rattle.pcap_core.specs.Link.{link_number, IsPlain}
use Rattle.pcap_blocks.specs.declared.block_type.BlockType.TheVariants as types
use Rattle.pcap_blocks.specs.BlockType.{block_type, type_number}
use Rattle.pcap_options.specs.Values.{Value, Str, Bytes, Integer, CustomStr, CustomBytes, Unknown, Entry, Shape, string, bytes, some_bytes, fixed_bytes, byte, number, first_number, first_time, custom_string, custom_bytes, unknown, Kind, shape_at, value_of}
use Rattle.pcap_blocks.specs.StoredPacket.{Stored}
use Rattle.pcap_options.specs.SectionOption.{section_header}
use Rattle.pcap_options.specs.InterfaceOption.{interface_description}
use Rattle.pcap_blocks.specs.InterfaceDescription.{Interface}
use Rattle.pcap_options.specs.StatisticsOption.{interface_statistics}
use Rattle.pcap_options.specs.EnhancedOption.{enhanced_packet}
use Rattle.pcap_options.specs.PacketOption.{packet_kind}
use Rattle.pcap_options.specs.Names.{HasNoZero}
use Rattle.pcap_options.specs.Record.{Address, NameRecord, End, Ipv4, Ipv6, Other, form_of, any_value}
use Rattle.pcap_options.specs.NameOption.{name_resolution}
use Rattle.pcap_blocks.specs.NameResolution.{Resolution}
use Rattle.pcap_blocks.specs.UnknownBlock.{UnknownBody}
use Rattle.pcap_blocks.specs.ParsedBlock.{Body, SectionBody, InterfaceBody, OldPacketBody, SimpleBody, NamesBody, StatisticsBody, EnhancedBody, JournalBody, OtherBody}
use Rattle.pcap_written.specs.declared.unwritable.Unwritable.{Unwritable}
use Rattle.pcap_written.specs.declared.unwritable.Unwritable.TheVariants as flaws
use Rattle.pcap_core.specs.Codec.{Encoder}
use Rattle.pcap_written.specs.Text.{option_value}
use Rattle.pcap_written.specs.Bodies.{address_text}

-- The message for each reason.
abbrev pub flaw_message : Unwritable → List ℕ
flaw_message flaws.OptionTooLong = codes "Option: value length > 65535"
flaw_message flaws.OptionMisplaced = codes "Option: value of another code"
flaw_message flaws.OptionLengthDiffers = codes "UnknownOption: length != value.len()"
flaw_message (flaws.Breaks rule) = rule_message rule
flaw_message flaws.CapturedLengthDiffers = codes "EnhancedPacketBlock: captured_len != data.len()"
flaw_message flaws.LinkTooLarge = codes "InterfaceDescriptionBlock: linktype > 65535"
flaw_message flaws.LinkMisnamed = codes "InterfaceDescriptionBlock: linktype has a name"
flaw_message flaws.EndMisplaced = codes "NameResolutionBlock: nrb_record_end among the records"
flaw_message flaws.AddressLengthDiffers = codes "NameResolutionBlock: address of another length"
flaw_message flaws.NameWithZero = codes "NameResolutionBlock: name with a zero byte"
flaw_message flaws.RecordTooLong = codes "NameResolutionBlock: Record length > 65535"
flaw_message flaws.RecordMisnamed = codes "UnknownRecord: type has a name"
flaw_message flaws.RecordLengthDiffers = codes "UnknownRecord: length != value.len()"
flaw_message flaws.TypeMisnamed = codes "UnknownBlock: type has a name"
flaw_message flaws.BlockLengthDiffers = codes "UnknownBlock: length != value.len()"
flaw_message flaws.BlockTooLong = codes "Block: length > 0xFFFFFFFF"
flaw_message flaws.InterfaceMissing = codes "Block: interface_id is not described"
flaw_message flaws.InterfacesFull = codes "SectionHeader: too many interfaces"
flaw_message flaws.OrderDiffers = codes "Block: order of another section"

-- An option of this shape holds values of this form.
abbrev pub Suits : Shape → Value → Type 0
Suits string (Str t) = Unit {0}
Suits bytes (Bytes b) = Unit {0}
Suits (some_bytes empty) (Bytes b) = Unit {0}
Suits (fixed_bytes n wrong_length) (Bytes b) = Unit {0}
Suits (byte wrong_length) (Integer n) = Unit {0}
Suits (number w wrong_length) (Integer n) = Unit {0}
Suits first_number (Integer n) = Unit {0}
Suits first_time (Integer n) = Unit {0}
Suits custom_string (CustomStr pen t) = Unit {0}
Suits custom_bytes (CustomBytes pen b) = Unit {0}
Suits unknown (Unknown len b) = Unit {0}
Suits _ _ = ⊥

-- The option has the code of the end mark, or a code whose options hold values of another form.
abbrev pub IsMisplaced : Kind → Entry → Type 0
IsMisplaced kind o = (o.code ≡ 0) ⊎ (Suits (shape_at kind o.code) o.value → ⊥)

-- The value states a length that differs from the number of its bytes.
abbrev pub LengthDiffers : Value → Type 0
LengthDiffers (Unknown len b) = length b ≢ len
LengthDiffers _ = ⊥

-- The option can't be written, for this reason.
abbrev pub OptionFlaw : Order → Encoder → Kind → Unwritable → Entry → Type 0
OptionFlaw order write kind flaws.OptionTooLong o = 2 ^ 16 ≤ length (option_value write kind o)
OptionFlaw order write kind flaws.OptionMisplaced o = IsMisplaced kind o
OptionFlaw order write kind flaws.OptionLengthDiffers o = LengthDiffers o.value
OptionFlaw order write kind (flaws.Breaks rule) o = value_of order (shape_at kind o.code) (option_value write kind o) ≡ Err (Invalid rule)
OptionFlaw order write kind _ o = ⊥

-- The list can't be written, since one of its options can't be written for this reason.
abbrev pub ListFlaw : Order → Encoder → Kind → List Entry → Unwritable → Type 0
ListFlaw order write kind os flaw = Any (OptionFlaw order write kind flaw) os

-- The stored packet can't be written, for this reason.
abbrev pub StoredFlaw : Order → Encoder → Kind → Stored → Unwritable → Type 0
StoredFlaw order write kind p flaws.CapturedLengthDiffers = length p.bytes ≢ p.captured_len
StoredFlaw order write kind p flaw = ListFlaw order write kind p.options flaw

-- The interface can't be written, for this reason.
abbrev pub InterfaceFlaw : Order → Encoder → Interface → Unwritable → Type 0
InterfaceFlaw order write i flaws.LinkTooLarge = 2 ^ 16 ≤ link_number i.linktype
InterfaceFlaw order write i flaws.LinkMisnamed = IsPlain i.linktype → ⊥
InterfaceFlaw order write i flaw = ListFlaw order write interface_description i.options flaw

-- The address of this width and its names can't be written, for this reason; `too_short` is the rule that a short value breaks.
abbrev pub AddressFlaw : ℕ → Rule → Address → Unwritable → Type 0
AddressFlaw width too_short a flaws.AddressLengthDiffers = length a.bytes ≢ width
AddressFlaw width too_short a flaws.NameWithZero = Any (λ name. HasNoZero name → ⊥) a.names
AddressFlaw width too_short a flaws.RecordTooLong = 2 ^ 16 ≤ length (address_text a)
AddressFlaw width too_short a (flaws.Breaks rule) = (rule ≡ too_short) × (length (address_text a) < width + 2)
AddressFlaw width too_short a _ = ⊥

-- The record of another type can't be written, for this reason.
abbrev pub OtherFlaw : ℕ → ℕ → List ℕ → Unwritable → Type 0
OtherFlaw type len v flaws.RecordMisnamed = form_of type ≢ any_value type
OtherFlaw type len v flaws.RecordLengthDiffers = len ≢ length v
OtherFlaw type len v _ = ⊥

-- The record can't be written, for this reason.
abbrev pub RecordFlaw : Unwritable → NameRecord → Type 0
RecordFlaw flaw End = flaw ≡ flaws.EndMisplaced
RecordFlaw flaw (Ipv4 a) = AddressFlaw 4 Ipv4RecordTooShort a flaw
RecordFlaw flaw (Ipv6 a) = AddressFlaw 16 Ipv6RecordTooShort a flaw
RecordFlaw flaw (Other type len v) = OtherFlaw type len v flaw

-- The name resolution block can't be written, since one of its records or options can't be written for this reason.
abbrev pub ResolutionFlaw : Order → Encoder → Resolution → Unwritable → Type 0
ResolutionFlaw order write b flaw = Any (RecordFlaw flaw) b.records ⊎ ListFlaw order write name_resolution b.options flaw

-- The block of an unknown type can't be written, for this reason.
abbrev pub UnknownFlaw : UnknownBody → Unwritable → Type 0
UnknownFlaw u flaws.TypeMisnamed = block_type (type_number u.type_) ≢ types.Unknown (type_number u.type_)
UnknownFlaw u flaws.BlockLengthDiffers = u.len ≢ length u.bytes
UnknownFlaw u _ = ⊥

-- The body can't be written, for this reason.
abbrev pub BodyFlaw : Order → Encoder → Body → Unwritable → Type 0
BodyFlaw order write (SectionBody s) = ListFlaw order write section_header s.options
BodyFlaw order write (InterfaceBody i) = InterfaceFlaw order write i
BodyFlaw order write (OldPacketBody p) = StoredFlaw order write packet_kind p.packet
BodyFlaw order write (SimpleBody p) = λ flaw. ⊥
BodyFlaw order write (NamesBody b) = ResolutionFlaw order write b
BodyFlaw order write (StatisticsBody s) = ListFlaw order write interface_statistics s.options
BodyFlaw order write (EnhancedBody x) = StoredFlaw order write enhanced_packet x.packet
BodyFlaw order write (JournalBody entry) = λ flaw. ⊥
BodyFlaw order write (OtherBody u) = UnknownFlaw u

-- The number of a link type in an interface description, or the reason why it can't be written.
abbrev pub TellsLink : DataLink → Result ℕ Unwritable → Type 0
TellsLink link (Ok n) = (n ≡ link_number link) × (n < 2 ^ 16) × IsPlain link
TellsLink link (Err flaws.LinkTooLarge) = 2 ^ 16 ≤ link_number link
TellsLink link (Err flaws.LinkMisnamed) = IsPlain link → ⊥
TellsLink link (Err _) = ⊥
