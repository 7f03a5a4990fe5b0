-- What the calls return that write blocks.
use Rattle.std.specs.Prelude.{◌≡◌, ◌<◌, ◌≤◌, ◌+◌, ◌^◌, ◌⊎◌, ⊤, ℕ, ℤ, pos, List, ◌++◌, length, true, false, Some, None, All, Any, FitsSigned}
use Rattle.std.specs.Int.{w64, cast_unsigned}
use Rattle.std.specs.List.{flat_map}
use Rattle.pcap_core.specs.declared.common.Endianness.{Endianness}
use Rattle.pcap_core.specs.declared.link.DataLink.{DataLink}
use Rattle.pcap_core.specs.declared.rules.Rule.TheVariants.{SectionMagic, InterfaceResolutionLength}
use Rattle.pcap_core.specs.Codec.{Encoder, number_bytes}
use Rattle.pcap_core.specs.Link.{Link, link_number}
use Rattle.pcap_core.specs.Padded.{up_to_4}
use Rattle.pcap_options.specs.InterfaceOption.{interface_description}
use Rattle.pcap_blocks.specs.declared.block_type.BlockType.{BlockType}
use Rattle.pcap_blocks.specs.declared.block_type.BlockType.TheVariants as types
use Rattle.pcap_blocks.specs.BlockType.{block_type}
use Rattle.pcap_blocks.specs.SectionHeader.{magic_order}
use Rattle.pcap_ng.specs.State.{is_kept}
use Rattle.pcap_written.specs.declared.place.Place.{Place}
use Rattle.pcap_written.specs.Bodies.{body_text}
use Rattle.pcap_written.specs.Mixed.{GoesOut, Written, of_bytes, of_value}
use Rattle.pcap_written.specs.Text.{option_text, padded_bytes}
use Rattle.pcapfile_values.specs.declared.blocks.PcapfileBlock.{PcapfileBlock}
use Rattle.pcapfile_values.specs.declared.blocks.PcapfileSection.{PcapfileSection}
use Rattle.pcapfile_values.specs.declared.bodies.PcapfileInterface.{PcapfileInterface}
use Rattle.pcapfile_values.specs.declared.bodies.PcapfileNgPacket.{PcapfileNgPacket}
use Rattle.pcapfile_values.specs.declared.reasons.Reason.{Reason}
use Rattle.pcapfile_values.specs.declared.reasons.Reason.TheVariants as reasons
use Rattle.pcapfile_values.specs.BlockTexts.{section_block, interface_block, packet_block, clock_len, clock_options, resolution_byte}
use Rattle.pcapfile_values.specs.Reasons.{IsRefused}
use Rattle.pcapfile_c.specs.declared.options.PcapfileOption.{PcapfileOption}
use Rattle.pcapfile_c.specs.PutParts.{IsListed, IsUnlisted, list_bytes, tail_bytes}
use Rattle.pcapfile_c.specs.Rooms.{BeginsWith, NeedsRoom}
use Rattle.pcapfile_c.specs.Readers.{BlockWriter}

-- What a program passes to a call that writes a block.
pub data Given : Type 0 where
  a_section : PcapfileSection → Given
  an_interface : PcapfileInterface → Given
  a_packet : PcapfileNgPacket → Given
  a_section_with : PcapfileSection → List PcapfileOption → Given
  an_interface_with : PcapfileInterface → List PcapfileOption → Given
  a_packet_with : PcapfileNgPacket → List PcapfileOption → Given
  a_block : PcapfileBlock → Given

-- The block of bytes with this type and this body, in this byte order.
abbrev pub raw_block : BlockType → Endianness → List ℕ → Written
raw_block type e body = of_bytes (record { type_ = type; endianness = e; body = body })

-- The link type, the snapshot length and the clock of the interface that a struct shows, without the mark that ends its options.
abbrev pub interface_front : Encoder → DataLink → PcapfileInterface → List ℕ
interface_front write link i =
    write 2 (link_number link) ++ (write 2 0 ++ (write 4 i.snaplen
    ++ flat_map (option_text write interface_description) (clock_options (resolution_byte i.ts_base i.ts_exponent) (cast_unsigned w64 i.ts_offset))))

-- The link type is that of the interface. The exponent of its unit has seven bits, and its offset 64.
pub record IsLinkOf (i : PcapfileInterface) (link : DataLink) : Type 0 where
  pub named : Link i.link link
  pub exponent : i.ts_exponent < 128
  pub offset : FitsSigned w64 i.ts_offset

-- The block that is written for it, after a section with interfaces, in this byte order. One with options is a block of bytes.
abbrev pub IsBlockOf : Given → PcapfileSection → Endianness → Written → Type 0
IsBlockOf (a_section s) section e block = block ≡ of_value (section_block s)
IsBlockOf (an_interface i) section e block = (link : DataLink) × IsLinkOf i link × (block ≡ of_value (interface_block link i))
IsBlockOf (a_packet p) section e block = block ≡ of_value (packet_block p)
IsBlockOf (a_section_with s os) section e block =
    All (IsListed false) os × (block ≡ raw_block types.SectionHeader e (body_text (number_bytes e) (section_block s) ++ list_bytes (number_bytes e) os))
IsBlockOf (an_interface_with i os) section e block =
    All (IsListed true) os × ((link : DataLink) × IsLinkOf i link
    × (block ≡ raw_block types.InterfaceDescription e (interface_front (number_bytes e) link i ++ tail_bytes (number_bytes e) true os)))
IsBlockOf (a_packet_with p os) section e block =
    All (IsListed false) os × (p.interface_id < section.interfaces)
    × (block ≡ raw_block types.EnhancedPacket e (body_text (number_bytes e) (packet_block p) ++ list_bytes (number_bytes e) os))
IsBlockOf (a_block b) section e block = (is_kept (block_type b.type_) ≡ false) × (block ≡ raw_block (block_type b.type_) e (padded_bytes b.body.now))

-- A section header is allowed anywhere, and other blocks only in the section that the struct shows, with its number of interfaces.
abbrev pub MayStandAt : Given → PcapfileSection → Place → Type 0
MayStandAt (a_section s) section at = ⊤
MayStandAt (a_section_with s os) section at = ⊤
MayStandAt _ section at = (magic_order section.magic_number ≡ Some at.endianness) × (section.interfaces ≡ at.interfaces)

-- The text is the block of what was passed, in the byte order of the section. The next section has the interfaces after that block.
pub record IsTextOf (given : Given) (section next : PcapfileSection) (text : List ℕ) : Type 0 where
  pub block : Written
  pub behind : Place
  pub block_is : IsBlockOf given section behind.endianness block
  pub written : (at : Place) → MayStandAt given section at → GoesOut at block text behind
  pub order : magic_order section.magic_number ≡ Some behind.endianness
  pub next_is : next ≡ record section { interfaces = behind.interfaces }

-- The call can't write this: an option of it, or a block that has a call of its own (a section header or an interface).
abbrev pub IsMisused : Given → Type 0
IsMisused (a_section_with s os) = Any (IsUnlisted false) os
IsMisused (an_interface_with i os) = Any (IsUnlisted true) os
IsMisused (a_packet_with p os) = Any (IsUnlisted false) os
IsMisused (a_block b) = is_kept (block_type b.type_) ≡ true
IsMisused _ = ⊥

-- The result of a call. Status 0: the block was written, and the section is the one after it. Under the others nothing was written, and
-- the section is unchanged. Status 9: the room is too short. Status 3: there is a reason against it. Status 10: the call can't write it.
abbrev pub PutsBlock : (Reason → Type 0) → Given → BlockWriter → BlockWriter → ℤ → Type 0
PutsBlock Stands given old new status =
    ((status ≡ pos 0) × (new.error ≡ old.error) × (text : List ℕ) × IsTextOf given old.section new.section text × BeginsWith text old.room new.room new.written)
    ⊎ ((new.section ≡ old.section) × (new.room ≡ old.room) × (new.written ≡ old.written)
    × (((status ≡ pos 9) × (text : List ℕ) × (after : PcapfileSection) × IsTextOf given old.section after text × NeedsRoom text old.room new.error)
    ⊎ (((reason : Reason) × Stands reason × IsRefused reason new.error status)
    ⊎ ((status ≡ pos 10) × (new.error ≡ old.error) × IsMisused given))))

-- The reasons against a section.
abbrev pub SectionFlaw : PcapfileSection → Reason → Type 0
SectionFlaw section (reasons.Breaks rule) = (rule ≡ SectionMagic) × (magic_order section.magic_number ≡ None)
SectionFlaw section _ = ⊥

-- The reasons against an interface.
abbrev pub InterfaceFlaw : PcapfileSection → PcapfileInterface → Reason → Type 0
InterfaceFlaw section i (reasons.Breaks rule) = SectionFlaw section (reasons.Breaks rule) ⊎ ((rule ≡ InterfaceResolutionLength) × (128 ≤ i.ts_exponent))
InterfaceFlaw section i reasons.LinkTooLarge = 2 ^ 16 ≤ i.link
InterfaceFlaw section i reasons.InterfacesFull = 2 ^ 32 ≤ section.interfaces + 1
InterfaceFlaw section i _ = ⊥

-- The reasons against a packet.
abbrev pub PacketFlaw : PcapfileSection → PcapfileNgPacket → Reason → Type 0
PacketFlaw section p (reasons.Breaks rule) = SectionFlaw section (reasons.Breaks rule)
PacketFlaw section p reasons.InterfaceMissing = section.interfaces ≤ p.interface_id
PacketFlaw section p reasons.BlockTooLong = 2 ^ 32 ≤ up_to_4 (length p.bytes.now) + 32
PacketFlaw section p _ = ⊥

-- The reasons against a section with options: also that they are too long for a block.
abbrev pub SectionWithFlaw : PcapfileSection → List PcapfileOption → Reason → Type 0
SectionWithFlaw section os reasons.BlockTooLong = (e : Endianness) × (2 ^ 32 ≤ length (list_bytes (number_bytes e) os) + 28)
SectionWithFlaw section os reason = SectionFlaw section reason

-- The reasons against an interface with options.
abbrev pub InterfaceWithFlaw : PcapfileSection → PcapfileInterface → List PcapfileOption → Reason → Type 0
InterfaceWithFlaw section i os reasons.BlockTooLong =
    (e : Endianness) × (2 ^ 32 ≤ length (tail_bytes (number_bytes e) true os) + (clock_len (cast_unsigned w64 i.ts_offset) + 16))
InterfaceWithFlaw section i os reason = InterfaceFlaw section i reason

-- The reasons against a packet with options.
abbrev pub PacketWithFlaw : PcapfileSection → PcapfileNgPacket → List PcapfileOption → Reason → Type 0
PacketWithFlaw section p os reasons.BlockTooLong = (e : Endianness) × (2 ^ 32 ≤ length (list_bytes (number_bytes e) os) + (up_to_4 (length p.bytes.now) + 32))
PacketWithFlaw section p os reason = PacketFlaw section p reason

-- The reasons against a block of bytes.
abbrev pub BytesFlaw : PcapfileSection → PcapfileBlock → Reason → Type 0
BytesFlaw section b (reasons.Breaks rule) = SectionFlaw section (reasons.Breaks rule)
BytesFlaw section b reasons.BlockTooLong = 2 ^ 32 ≤ up_to_4 (length b.body.now) + 12
BytesFlaw section b _ = ⊥
