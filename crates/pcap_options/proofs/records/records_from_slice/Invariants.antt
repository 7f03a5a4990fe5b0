use Rattle.std.proofs.Common.{length, map, All}
use Rattle.pcap_core.specs.Padded.{Chain}
use Rattle.pcap_options.specs.Record.{name_record_of, RecordIsBorrowed}
use Rattle.pcap_options.specs.Records.{KeptText}
use Rattle.pcap_options.proofs.records.records_from_slice.Given as goal

abbrev pub invariant-loop-records : goal.invariant-loop-records
invariant-loop-records g l = record {
  so_far : Chain (KeptText g.B.ByteOrder.number_of) (map name_record_of l.records.items) l.fn.slice l.rest;
  borrowed : All RecordIsBorrowed l.records.items;
}

abbrev pub decreases-loop-records : goal.decreases-loop-records
decreases-loop-records g l = length l.rest
