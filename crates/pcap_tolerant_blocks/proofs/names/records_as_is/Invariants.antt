use Rattle.std.proofs.Common.{length, map, All}
use Rattle.pcap_options.specs.Record.{RecordIsBorrowed, name_record_of}
use Rattle.pcap_tolerant_blocks.specs.Flaws.{said_of}
use Rattle.pcap_tolerant_blocks.proofs.RecordsAsIs.{RecordsSoFar}
use Rattle.pcap_tolerant_blocks.proofs.names.records_as_is.Given as goal

abbrev pub invariant-loop-flaws : goal.invariant-loop-flaws
invariant-loop-flaws g l = record {
  so_far : RecordsSoFar g.B.ByteOrder.number_of (map name_record_of l.records.items) (map said_of l.flaws.items) l.slice l.left;
  borrowed : All RecordIsBorrowed l.records.items;
}

abbrev pub decreases-loop-flaws : goal.decreases-loop-flaws
decreases-loop-flaws g l = length l.left
