-- Packets of a classic capture that a reader lends from its buffer.
use Rattle.std.specs.Prelude.{◌≡◌, ◌==◌, if◌then◌else◌, ℕ, List, [], take, drop, Bool, Option, None, Some}
use Rattle.std.specs.Io.Buffered.{reader_buffer, reader_capacity, reader_inner}
use Rattle.std.specs.Io.KnownBytes.{prepend_known}
use Rattle.std.specs.declared.io.buffered.BufReader.{BufReader}
use Rattle.pcap_core.specs.Answer.{whole}
use Rattle.pcap_classic.specs.declared.pcap.header.PcapHeader.{PcapHeader}
use Rattle.pcap_classic.specs.declared.pcap.packet.PacketHeader.{PacketHeader}
use Rattle.pcap_classic.specs.declared.pcap.reader.PcapReader.{PcapReader}
use Rattle.pcap_classic.specs.Packets.{reader_format}
use Rattle.pcap_classic.specs.PacketText.{Captured, packet_limit}
use Rattle.pcap_classic.specs.Reader as readers
use Rattle.pcap_classic.specs.StatedPackets.{held_packet}
use Rattle.pcapfile_merge.specs.declared.buffered.BufferedPackets.{BufferedPackets}

-- What is left of a stream, after the first n bytes of the buffer in front of it.
abbrev pub left_behind : {R A : Type 0} → (R → Option (List ℕ)) → ℕ → BufReader R A → Option (List ℕ)
left_behind remaining n buffered = if reader_capacity buffered == 0 then None else prepend_known (drop n (reader_buffer buffered)) (remaining (reader_inner buffered))

-- How many bytes of the buffer are lent.
abbrev pub lent_of : Option ℕ → ℕ
lent_of None = 0
lent_of (Some n) = n

-- The data that is lent: from the reader, or after the header in the first n bytes of its buffer.
abbrev pub data_in : {R A : Type 0} → Option ℕ → PcapReader (BufReader R A) → List ℕ
data_in None reader = readers.data_of reader
data_in (Some n) reader = drop 16 (take n (reader_buffer (readers.stream_of reader)))

-- The packet with this header and the lent data.
abbrev pub lent_at : {R A : Type 0} → Option ℕ → PcapReader (BufReader R A) → PacketHeader → Captured
lent_at shown reader head = record { header = head; bytes = data_in shown reader }

module _ {R : Type 0} where
  -- The header of the capture.
  abbrev pub header_of : BufferedPackets R → PcapHeader
  header_of packets = packets.reader.header

  -- The data of the packet whose header came last.
  abbrev pub data_of : BufferedPackets R → List ℕ
  data_of packets = data_in packets.shown packets.reader

  -- The packet with this header and the lent data.
  abbrev pub lent_packet : BufferedPackets R → PacketHeader → Captured
  lent_packet packets = lent_at packets.shown packets.reader

  -- Whether the reader has refused something.
  abbrev pub is_done : BufferedPackets R → Bool
  is_done packets = readers.is_done packets.reader

  -- Whether a read of the stream failed.
  abbrev pub has_failed : BufferedPackets R → Bool
  has_failed packets = readers.has_failed packets.reader

  -- What is left after the packet that is lent.
  abbrev pub left_of : (R → Option (List ℕ)) → BufferedPackets R → Option (List ℕ)
  left_of remaining packets = left_behind remaining (lent_of packets.shown) (readers.stream_of packets.reader)

  -- StaysAt remaining old new: the reader removed the lent packet from the buffer and took no other.
  abbrev pub StaysAt : (R → Option (List ℕ)) → BufferedPackets R → BufferedPackets R → Type 0
  StaysAt remaining old new = (new.shown ≡ None) × (left_of remaining new ≡ left_of remaining old) × (is_done new ≡ is_done old)

-- LiesWhole header s head n: the first n bytes of s are a whole packet with the header `head`.
abbrev pub LiesWhole : PcapHeader → List ℕ → PacketHeader → ℕ → Type 0
LiesWhole header s head n = (reader_format packet_limit header).says tt (take n s) (whole (held_packet (take n s) head) [])
