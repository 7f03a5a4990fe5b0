-- Writers whose wrapped stream is replaced.
use Rattle.pcap_written.specs.declared.writer.PcapNgWriter.{PcapNgWriter}

-- The writer with its stream replaced by this one.
abbrev pub writer_with : {W : Type 0} → PcapNgWriter W → W → PcapNgWriter W
writer_with w x = record w { inner = x }
