-- The structs that show C the header and the packets of a classic capture.
use Rattle.std.specs.Prelude.{length}
use Rattle.pcap_core.specs.Link.{link_number}
use Rattle.pcap_classic.specs.declared.pcap.header.PcapHeader.{PcapHeader}
use Rattle.pcap_classic.specs.PacketText.{Captured}
use Rattle.pcapfile_values.specs.declared.shown.PcapfileHeader.{PcapfileHeader}
use Rattle.pcapfile_values.specs.declared.shown.PcapfilePacket.{PcapfilePacket}

-- The struct that shows a header.
abbrev pub shown_header : PcapHeader → PcapfileHeader
shown_header h = record {
  magic_number = h.magic_number;
  version_major = h.version_major;
  version_minor = h.version_minor;
  ts_correction = h.ts_correction;
  ts_accuracy = h.ts_accuracy;
  snaplen = h.snaplen;
  link = link_number h.datalink;
}

-- The packet that a struct shows. Its stored length is the length of the borrowed bytes.
abbrev pub captured : PcapfilePacket → Captured
captured p = record {
  header = record { ts_sec = p.ts_sec; ts_nsec = p.ts_nsec; incl_len = length p.bytes.now; orig_len = p.orig_len };
  bytes = p.bytes.now;
}
