-- This file proves how items are counted one after another.
use Rattle.std.proofs.Common.{◌≡◌, ◌+◌, ◌^◌, ℕ, List, [], length, arith}
use Rattle.pcap_core.specs.Answer.{number_in, whole}
use Rattle.pcap_classic.specs.declared.pcap.header.PcapHeader.{PcapHeader}
use Rattle.pcap_classic.specs.Magic.{order_of, resolution_of}
use Rattle.pcap_classic.specs.Packets.{packet_format, reader_format}
use Rattle.pcap_classic.specs.PacketText.{packet_limit, Captured}
use Rattle.pcap_classic.proofs.Packets.{reader_whole}
use Rattle.pcap_classic.proofs.Texts.{packet_length}
use Rattle.pcapfile_run.specs.Passing.{counted}

-- Counting goes on where it stopped.
pub counted_more : (a b c m n : ℕ) → b ≡ counted (a + m) → c ≡ counted (b + n) → c ≡ counted (a + (m + n))
counted_more a b c m n first second = omega arith

pub counted_behind : (b c m n : ℕ) → b ≡ counted m → c ≡ counted (b + n) → c ≡ counted (m + n)
counted_behind b c m n first second = omega arith

-- A packet that a reader takes is a header of 16 bytes and its data.
pub packet_long : (header : PcapHeader) (s : List ℕ) (packet : Captured) → (reader_format packet_limit header).says tt s (whole packet []) → length s ≡ 16 + packet.header.incl_len
unfolding packet_format
packet_long header s packet says =
    let text = (reader_whole packet_limit header s [] packet says).1 in
    omega (arith, packet_length (number_in (order_of header.magic_number)) packet_limit (resolution_of header.magic_number) packet s [] text)
