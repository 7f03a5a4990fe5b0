-- Readers whose stream is replaced by another.
use Rattle.pcap_ng.specs.declared.pcapng.reader.PcapNgReader.{PcapNgReader}

-- The same reader with another stream.
abbrev pub reader_with : {T : Type 0} → PcapNgReader T → T → PcapNgReader T
reader_with r x = record r { inner = x }
