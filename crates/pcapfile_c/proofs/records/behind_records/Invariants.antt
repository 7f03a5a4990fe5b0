use Rattle.std.proofs.Common.{List, length}
use Rattle.pcap_core.specs.Padded.{Chain}
use Rattle.pcap_options.specs.Records.{KeptText}
use Rattle.pcap_options.specs.Record.{NameRecord}
use Rattle.pcapfile_c.proofs.records.behind_records.Given as goal

abbrev pub invariant-loop-rest : goal.invariant-loop-rest
invariant-loop-rest g l = (records : List NameRecord) × Chain (KeptText g.B.ByteOrder.number_of) records l.fn.body l.left

abbrev pub decreases-loop-rest : goal.decreases-loop-rest
decreases-loop-rest g l = length l.left
