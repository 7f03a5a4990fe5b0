-- Readers and writers whose wrapped stream is replaced.
use Rattle.pcap_classic.specs.declared.pcap.reader.PcapReader.{PcapReader}
use Rattle.pcap_classic.specs.declared.pcap.writer.PcapWriter.{PcapWriter}
use Rattle.pcap_items.specs.LentStreams.{fill_with}

-- The writer with its stream replaced by this one.
abbrev pub writer_with : {W : Type 0} → PcapWriter W → W → PcapWriter W
writer_with w x = record w { inner = x }

-- The reader with its stream replaced by this one.
abbrev pub reader_with : {T : Type 0} → PcapReader T → T → PcapReader T
reader_with r x = record r { fill = fill_with r.fill x }
