use Rattle.std.proofs.Common.{◌≡◌, ◌++◌, map, take}
use Rattle.std.specs.Prelude.{All}
use Rattle.std.specs.List.{flat_map}
use Rattle.pcap_options.specs.Record.{name_record_of}
use Rattle.pcap_written.specs.Bodies.{record_text}
use Rattle.pcap_written.specs.Fits.{IsFitRecord}
use Rattle.pcap_written.proofs.names.put_records.Given as goal

abbrev pub invariant-loop-record : goal.invariant-loop-record
invariant-loop-record g l = record {
  out : l.out.items ≡ l.fn.out.items ++ flat_map (record_text g.B.ByteOrder.bytes_of) (map name_record_of (take l.record-index l.records));
  fit : All IsFitRecord (map name_record_of (take l.record-index l.records));
}
