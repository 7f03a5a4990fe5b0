use Rattle.std.proofs.Common.{◌≤◌, List, [], length}
use Rattle.pcap_options.specs.Values.{Entry}
use Rattle.pcap_tolerant_blocks.proofs.Lists.{ReadSoFar}
use Rattle.pcap_tolerant_blocks.proofs.flaw_by_flaw.find_flaw.Given as goal

abbrev pub invariant-loop-left : goal.invariant-loop-left
invariant-loop-left g l = record {
  so_far : (options : List Entry) × ReadSoFar g.B.ByteOrder.number_of g.O.PcapNgOption.kind options [] l.fn.options l.left;
  within : length l.left ≤ length l.fn.options;
}

abbrev pub decreases-loop-left : goal.decreases-loop-left
decreases-loop-left g l = length l.left
