use Rattle.std.proofs.Common.{length, map, All}
use Rattle.pcap_tolerant_blocks.specs.Flaws.{said_of}
use Rattle.pcap_tolerant_blocks.proofs.Lists.{ReadSoFar}
use Rattle.pcap_tolerant_blocks.proofs.list.list_as_is.Given as goal

abbrev pub invariant-loop-left : goal.invariant-loop-left
invariant-loop-left g l = record {
  so_far : ReadSoFar g.B.ByteOrder.number_of g.O.PcapNgOption.kind (map g.O.HoldsEntry.entry l.options.items) (map said_of l.flaws.items) l.fn.slice l.left;
  borrowed : All g.O.PcapNgOption.is_borrowed l.options.items;
}

abbrev pub decreases-loop-left : goal.decreases-loop-left
decreases-loop-left g l = length l.left
