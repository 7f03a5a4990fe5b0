use Rattle.std.proofs.Common.{◌≡◌, ◌≤◌, ◌-◌}
use Rattle.pcap_classic.specs.Stretches.{SendsWhole}
use Rattle.pcap_classic.specs.Written.{written_under}
use Rattle.pcap_classic.proofs.run.stretch.put_each.Given as goal

abbrev pub invariant-loop-packets : goal.invariant-loop-packets
invariant-loop-packets g l = record {
  sent : SendsWhole l.header (written_under l.out) l.shown l.rest (g.W.Write.contents l.fn.writer) (g.W.Write.contents l.writer) l.packets;
  within : l.packets ≤ l.most;
  same : l.has_failed ≡ l.fn.has_failed;
}

abbrev pub decreases-loop-packets : goal.decreases-loop-packets
decreases-loop-packets g l = l.most - l.packets
