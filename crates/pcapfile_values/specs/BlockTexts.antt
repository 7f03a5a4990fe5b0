-- The blocks that C's structs show, and their bytes in a room.
use Rattle.std.specs.Prelude.{◌≡◌, ◌≤◌, ◌+◌, ◌==◌, if◌then◌else◌, ℕ, negsuc, List, [], ◌∷◌, ◌++◌, length, take, drop}
use Rattle.std.specs.Int.{w64, cast_unsigned}
use Rattle.pcap_core.specs.declared.link.DataLink.{DataLink}
use Rattle.pcap_blocks.specs.ParsedBlock.{Body, SectionBody, InterfaceBody, EnhancedBody}
use Rattle.pcap_options.specs.Values.{Entry, Integer}
use Rattle.pcap_core.specs.Codec.{Encoder}
use Rattle.pcap_written.specs.Bodies.{packet_head_text}
use Rattle.pcap_written.specs.Plain.{plain_packet}
use Rattle.pcapfile_values.specs.declared.blocks.PcapfileSection.{PcapfileSection}
use Rattle.pcapfile_values.specs.declared.bodies.PcapfileInterface.{PcapfileInterface}
use Rattle.pcapfile_values.specs.declared.bodies.PcapfileNgPacket.{PcapfileNgPacket}

-- This text was written at this place of the room, and all other bytes are as before.
pub record PutsAt (at : ℕ) (text old now : List ℕ) : Type 0 where
  pub within : at + length text ≤ length old
  pub is : now ≡ take at old ++ (text ++ drop (at + length text) old)

-- The section that a struct shows, without options. Its length is unknown, -1 ('Section Header Block').
abbrev pub section_block : PcapfileSection → Body
section_block s = SectionBody (record { magic = s.magic_number; major_version = s.version_major; minor_version = s.version_minor; section_length = negsuc 0; options = [] })

-- The byte of a unit: its highest bit is set for base 2, and base 10 is assumed otherwise (if_tsresol).
abbrev pub resolution_byte : ℕ → ℕ → ℕ
resolution_byte base exponent = if base == 2 then exponent + 128 else exponent

-- The options of a clock: its unit by this byte, and its offset by these bits unless they are 0 (if_tsresol, if_tsoffset).
abbrev pub clock_options : ℕ → ℕ → List Entry
clock_options resolution offset =
    record { code = 9; value = Integer resolution } ∷ (if offset == 0 then [] else record { code = 14; value = Integer offset } ∷ [])

-- The number of bytes of these options with their end mark.
abbrev pub clock_len : ℕ → ℕ
clock_len offset = if offset == 0 then 12 else 24

-- The interface that a struct shows, with this link type ('Interface Description Block').
abbrev pub interface_block : DataLink → PcapfileInterface → Body
interface_block link i =
    InterfaceBody (record { linktype = link; reserved = 0; snaplen = i.snaplen; options = clock_options (resolution_byte i.ts_base i.ts_exponent) (cast_unsigned w64 i.ts_offset) })

-- The enhanced packet that a struct shows, without options ('Enhanced Packet Block').
abbrev pub packet_block : PcapfileNgPacket → Body
packet_block p = EnhancedBody (plain_packet p.interface_id p.timestamp p.orig_len p.bytes.now)

-- The interface, the time and the lengths of the enhanced packet that a struct shows, which precede its bytes.
abbrev pub packet_front : Encoder → PcapfileNgPacket → List ℕ
packet_front write p = write 4 p.interface_id ++ packet_head_text write p.timestamp (length p.bytes.now) p.orig_len
