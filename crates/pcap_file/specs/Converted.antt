-- The PcapNg blocks that a classic capture becomes.
use Rattle.std.specs.Prelude.{◌+◌, ◌*◌, ◌^◌, ℕ, List, [], ◌∷◌, ◌++◌, map}
use Rattle.std.specs.List.{flat_map}
use Rattle.pcap_core.specs.declared.common.Endianness.TheVariants.{Little}
use Rattle.pcap_core.specs.Codec.{number_bytes}
use Rattle.pcap_classic.specs.declared.pcap.header.PcapHeader.{PcapHeader}
use Rattle.pcap_classic.specs.PacketText.{Captured}
use Rattle.pcap_blocks.specs.InterfaceDescription.{Interface}
use Rattle.pcap_blocks.specs.ParsedBlock.{Body, SectionBody, InterfaceBody, EnhancedBody}
use Rattle.pcap_options.specs.Values.{Entry, Integer}
use Rattle.pcap_written.specs.Bodies.{text_of}
use Rattle.pcap_written.specs.Plain.{plain_packet, plain_section}

-- The option if_tsresol that sets the timestamp resolution to nanoseconds.
abbrev pub in_nanoseconds : Entry
in_nanoseconds = record { code = 9; value = Integer 9 }

-- The interface of a capture with this header: its link type, its snapshot length, and times in nanoseconds.
abbrev pub interface_for : PcapHeader → Interface
interface_for header = record { linktype = header.datalink; reserved = 0; snaplen = header.snaplen; options = in_nanoseconds ∷ [] }

-- The time of a packet in nanoseconds since 1970-01-01 00:00:00 UTC.
abbrev pub time_of : Captured → ℕ
time_of packet = packet.header.ts_sec * 10 ^ 9 + packet.header.ts_nsec

-- The block of a packet: an enhanced packet of the only interface, with its time, its original length and its bytes.
abbrev pub packet_block : Captured → Body
packet_block packet = EnhancedBody (plain_packet 0 (time_of packet) packet.header.orig_len packet.bytes)

-- The blocks before the packets are a little-endian section header and the interface.
abbrev pub opening_blocks : PcapHeader → List Body
opening_blocks header = SectionBody (plain_section Little) ∷ InterfaceBody (interface_for header) ∷ []

-- The blocks of a converted capture are the opening blocks and one block for each packet.
abbrev pub converted : PcapHeader → List Captured → List Body
converted header packets = opening_blocks header ++ map packet_block packets

-- The little-endian text of a block.
abbrev pub little_text : Body → List ℕ
little_text = text_of (number_bytes Little)

-- The little-endian texts of blocks, concatenated.
abbrev pub little_texts : List Body → List ℕ
little_texts = flat_map little_text

-- The text of the block of a packet.
abbrev pub converted_text : Captured → List ℕ
converted_text packet = little_text (packet_block packet)
