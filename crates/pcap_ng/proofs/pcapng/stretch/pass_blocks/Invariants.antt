use Rattle.std.proofs.Common.{◌≤◌, ◌-◌, length}
use Rattle.pcap_ng.specs.Stretches.{Passes}
use Rattle.pcap_ng.proofs.pcapng.stretch.pass_blocks.Given as goal

abbrev pub invariant-loop-left : goal.invariant-loop-left
invariant-loop-left l = record {
  so_far : Passes l.order l.bytes l.rest (l.most - l.left);
  within : l.left ≤ l.most;
  head : 12 ≤ length l.rest;
}

abbrev pub decreases-loop-left : goal.decreases-loop-left
decreases-loop-left l = l.left
