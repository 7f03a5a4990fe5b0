-- What can be seen of a lenient reader of blocks.
use Rattle.std.specs.Prelude.{ℕ, List, Option}
use Rattle.pcap_tolerant_captures.specs.declared.reader.PcapNgReaderAsIs.{PcapNgReaderAsIs}
use Rattle.pcap_tolerant_captures.specs.Outlines.{Seen}
use Rattle.pcap_tolerant_captures.specs.ReaderAsIs.{state_of, stream_of, has_failed, is_done, text_of}

-- A reader whose stream shows so what it has left.
abbrev pub seen_of : {T : Type 0} → (T → Option (List ℕ)) → PcapNgReaderAsIs T → Seen
seen_of remaining reader =
    record { state = state_of reader; left = remaining (stream_of reader); done = is_done reader; failed = has_failed reader; text = text_of reader }
