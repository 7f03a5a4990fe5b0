-- This file defines the text that the word `list` writes for packets in other forms: a line, and rows of the bytes if they follow it.
use Rattle.std.specs.Prelude.{◌≡◌, ◌+◌, ◌/◌, ◌%◌, ◌⊎◌, ⊤, ℕ, pos, List, [], length, Option, None, Some}
use Rattle.pcap_core.specs.Answer.{whole, faulty}
use Rattle.pcap_core.specs.Faults.{Fault}
use Rattle.pcap_classic.specs.declared.pcap.header.PcapHeader.{PcapHeader}
use Rattle.pcap_classic.specs.declared.pcap.packet.PacketHeader.{PacketHeader}
use Rattle.pcap_classic.specs.PacketText.{Captured}
use Rattle.pcap_blocks.specs.InterfaceDescription.{Interface}
use Rattle.pcap_blocks.specs.ParsedBlock.{Body}
use Rattle.pcap_ng.specs.Bodies.{SaysOfBody}
use Rattle.pcap_ng.specs.Frames.{Framed}
use Rattle.capcopy_run.specs.Listing.{Kind}
use Rattle.capcopy_run.specs.PacketLines.{packets_in}
use Rattle.pcapfile_lines.specs.declared.form.Form.{Form}
use Rattle.pcapfile_lines.specs.declared.seen.Seen.{Seen}
use Rattle.pcapfile_lines.specs.Lines.{IsItemIn}
use Rattle.pcapfile_run.specs.BlockPackets.{InBlock, IsTimeIn, packet_in}

-- The properties of the packet with this header. A fraction of a second or more is carried to the seconds.
abbrev pub seen_header : PacketHeader → Seen
seen_header header = record {
  time = Some (record { seconds = pos (header.ts_sec + header.ts_nsec / 1_000_000_000); nanoseconds = header.ts_nsec % 1_000_000_000 });
  captured = header.incl_len;
  original = header.orig_len;
  interface = None;
}

-- IsPacketIn form index packet text: `text` is the text of a packet of a classic capture.
abbrev pub IsPacketIn : Form → ℕ → Captured → List ℕ → Type 0
IsPacketIn form index packet text = IsItemIn form index (Some (seen_header packet.header)) packet.bytes text

-- A classic capture is listed as a text in this form for each packet.
abbrev pub packets_as : Form → Kind PcapHeader (Unit {0}) Captured
packets_as form = packets_in ⊤ (IsPacketIn form)

-- IsSeen interfaces packet seen: `seen` are the properties of a packet in a block, given the interfaces of its section.
pub record IsSeen (interfaces : List Interface) (packet : InBlock) (seen : Seen) : Type 0 where
  pub time : IsTimeIn interfaces packet.interface packet.units seen.time
  pub captured : seen.captured ≡ length packet.bytes
  pub original : seen.original ≡ packet.original_len
  pub interface : seen.interface ≡ Some packet.interface

-- IsTextOfPacket: the text of a packet in a block; empty if there is no packet.
abbrev pub IsTextOfPacket : Form → List Interface → ℕ → Option InBlock → List ℕ → Type 0
IsTextOfPacket form interfaces number (Some packet) text = (seen : Seen) × IsSeen interfaces packet seen × IsItemIn form number (Some seen) packet.bytes text
IsTextOfPacket form interfaces number None text = text ≡ []

-- IsTextOfBody: the text of the packet in a body.
abbrev pub IsTextOfBody : Form → List Interface → ℕ → Body → List ℕ → Type 0
IsTextOfBody form interfaces number body text = IsTextOfPacket form interfaces number (packet_in interfaces body) text

-- IsTextOfBlock: the text of the packet in a block, whose line says so if the body is malformed. That packet has no bytes.
abbrev pub IsTextOfBlock : Form → List Interface → ℕ → Framed → List ℕ → Type 0
IsTextOfBlock form interfaces number block text =
    ((body : Body) × (rest : List ℕ) × SaysOfBody block (whole body rest) × IsTextOfBody form interfaces number body text)
    ⊎ ((fault : Fault) × SaysOfBody block (faulty fault) × IsItemIn form number None [] text)
