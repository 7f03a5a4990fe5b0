-- The default header of a capture.
use Rattle.std.specs.Prelude.{pos}
use Rattle.pcap_classic.specs.declared.pcap.header.PcapHeader.{PcapHeader}
use Rattle.pcap_core.specs.declared.link.DataLink.TheVariants.{ETHERNET}

-- The default header: big-endian, microseconds, version 2.4, no correction, snapshot length 65535, link type Ethernet.
abbrev pub default_header : PcapHeader
default_header = record {
  magic_number = 0xa1b2c3d4;
  version_major = 2;
  version_minor = 4;
  ts_correction = pos 0;
  ts_accuracy = 0;
  snaplen = 65535;
  datalink = ETHERNET;
}

-- The default header in little-endian order.
abbrev pub little_header : PcapHeader
little_header = record default_header { magic_number = 0xd4c3b2a1 }
