-- The facts about a packet that are known once its header is read.
use Rattle.std.specs.Prelude.{◌≡◌, ℕ, List, [], drop, true}
use Rattle.pcap_classic.specs.declared.pcap.header.PcapHeader.{PcapHeader}
use Rattle.pcap_classic.specs.declared.pcap.packet.PacketHeader.{PacketHeader}
use Rattle.pcap_classic.specs.declared.pcap.stated.HeldPacket.{HeldPacket}
use Rattle.pcap_core.specs.Answer.{number_in}
use Rattle.pcap_classic.specs.Magic.{is_magic, order_of, resolution_of}
use Rattle.pcap_classic.specs.Packets.{reader_format}
use Rattle.pcap_classic.specs.PacketText.{packet_limit, Captured, PacketHeaderText}
use Rattle.pcap_items.specs.Filling.{Stated}

-- The bytes are this header's text, which states that n bytes follow it.
pub record KnowsHeader (header : PcapHeader) (head : PacketHeader) (n : ℕ) (bytes : List ℕ) : Type 0 where
  pub valid : is_magic header.magic_number ≡ true
  pub text : PacketHeaderText packet_limit (number_in (order_of header.magic_number)) (resolution_of header.magic_number) head bytes []
  pub follows : head.incl_len ≡ n

-- The held bytes are a packet of the capture with its header, and `head` is the packet's own header.
abbrev pub IsHeld : HeldPacket → Type 0
IsHeld packet = Stated (KnowsHeader packet.from.now) ((reader_format packet_limit packet.from.now).head tt) packet.head packet.bytes.now

-- The packet of this header whose header and data these bytes are.
abbrev pub held_packet : List ℕ → PacketHeader → Captured
held_packet bytes head = record { header = head; bytes = drop 16 bytes }
