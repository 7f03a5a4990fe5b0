use Rattle.std.proofs.Common.{◌-◌, ◌≡◌, ◌≤◌, length, take}
use Rattle.pcap_items.specs.AsTheyCame.{as_they_came}
use Rattle.pcap_items.specs.Copying.{SendsWhole}
use Rattle.pcap_items.proofs.stream.as_they_came.AsTheyCameAheadShown.put_shown.Given as goal

abbrev pub invariant-loop-items : goal.invariant-loop-items
invariant-loop-items g l = record {
  sent : SendsWhole (g.H.Holding.format l.self.items) as_they_came (g.H.Holding.state l.place) (take l.used l.shown) (g.W.Write.contents l.fn.writer) (g.W.Write.contents l.writer) l.items;
  within : l.used ≤ length l.shown;
  few : l.items ≤ l.most;
  same : l.has_failed ≡ l.fn.has_failed;
}

abbrev pub decreases-loop-items : goal.decreases-loop-items
decreases-loop-items g l = l.most - l.items
