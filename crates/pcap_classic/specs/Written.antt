-- The bytes of a capture as the program writes it.
use Rattle.std.specs.Prelude.{◌<◌, ◌/◌, ◌++◌, ℕ, List, ◌≡◌, ◌≤◌, ◌^◌, length, IsTrue, FitsSigned}
use Rattle.std.specs.Int.{w32, cast_unsigned}
use Rattle.std.specs.List.{flat_map}
use Rattle.byteorder.specs.Endian.{big_bytes}
use Rattle.pcap_classic.specs.declared.common.TsResolution.{TsResolution}
use Rattle.pcap_classic.specs.declared.common.TsResolution.TheVariants.{MicroSecond, NanoSecond}
use Rattle.pcap_classic.specs.declared.pcap.header.PcapHeader.{PcapHeader}
use Rattle.pcap_classic.specs.declared.pcap.packet.PacketHeader.{PacketHeader}
use Rattle.pcap_core.specs.Codec.{Encoder, number_bytes}
use Rattle.pcap_core.specs.Link.{link_number, IsPlain}
use Rattle.pcap_classic.specs.Magic.{is_magic, order_of, resolution_of}
use Rattle.pcap_classic.specs.PacketText.{Captured, packet_limit, nanoseconds}

-- The fraction that is written for these nanoseconds.
abbrev pub fraction_of : TsResolution → ℕ → ℕ
fraction_of MicroSecond nanoseconds = nanoseconds / 1000
fraction_of NanoSecond nanoseconds = nanoseconds

-- The bytes of a packet's header, by an encoder (pcap draft, 'Packet Record').
abbrev pub packet_header_bytes : Encoder → TsResolution → PacketHeader → List ℕ
packet_header_bytes bytes r header =
    bytes 4 header.ts_sec ++ (bytes 4 (fraction_of r header.ts_nsec) ++ (bytes 4 header.incl_len ++ bytes 4 header.orig_len))

-- The bytes of a packet, by an encoder: its header, and then its data (pcap draft, 'Packet Record').
abbrev pub record_bytes : Encoder → TsResolution → Captured → List ℕ
record_bytes bytes r packet = packet_header_bytes bytes r packet.header ++ packet.bytes

-- The bytes of a capture's header, by an encoder, with the magic number high byte first (pcap draft, 'File Header').
abbrev pub header_bytes : Encoder → PcapHeader → List ℕ
header_bytes bytes header =
    big_bytes 4 header.magic_number ++ (bytes 2 header.version_major ++ (bytes 2 header.version_minor
    ++ (bytes 4 (cast_unsigned w32 header.ts_correction) ++ (bytes 4 header.ts_accuracy ++ (bytes 4 header.snaplen
    ++ bytes 4 (link_number header.datalink))))))

-- The bytes of a capture's header in the byte order of its magic number.
abbrev pub written_header : PcapHeader → List ℕ
written_header header = header_bytes (number_bytes (order_of header.magic_number)) header

-- The bytes of a packet in the byte order and timestamp resolution of a header's magic number.
abbrev pub written_under : PcapHeader → Captured → List ℕ
written_under header packet = record_bytes (number_bytes (order_of header.magic_number)) (resolution_of header.magic_number) packet

-- The bytes of a whole capture: its header, and then its packets.
abbrev pub capture : PcapHeader → List Captured → List ℕ
capture header packets = written_header header ++ flat_map (written_under header) packets

-- The packet after it is written and read again: in microseconds its nanoseconds are cut to a multiple of 1000.
abbrev pub cut : TsResolution → Captured → Captured
cut r packet = record {
  header = record {
    ts_sec = packet.header.ts_sec;
    ts_nsec = nanoseconds r (fraction_of r packet.header.ts_nsec);
    incl_len = packet.header.incl_len;
    orig_len = packet.header.orig_len;
  };
  bytes = packet.bytes;
}

-- A packet that can be written so that it is read again.
pub record IsWhole (packet : Captured) : Type 0 where
  pub seconds : packet.header.ts_sec < 2 ^ 32
  pub nanoseconds : packet.header.ts_nsec < 2 ^ 32
  pub included : length packet.bytes ≡ packet.header.incl_len
  pub original : packet.header.incl_len ≤ packet.header.orig_len
  pub limit : packet.header.orig_len ≤ packet_limit

-- A header that can be written so that it is read again: its magic number is one of the four, its link type is plain, and each number
-- fits its field.
pub record IsWholeHeader (header : PcapHeader) : Type 0 where
  pub valid : IsTrue (is_magic header.magic_number)
  pub plain : IsPlain header.datalink
  pub magic : header.magic_number < 2 ^ 32
  pub major : header.version_major < 2 ^ 16
  pub minor : header.version_minor < 2 ^ 16
  pub correction : FitsSigned w32 header.ts_correction
  pub accuracy : header.ts_accuracy < 2 ^ 32
  pub snaplen : header.snaplen < 2 ^ 32
  pub link : link_number header.datalink < 2 ^ 32
