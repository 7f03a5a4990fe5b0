use Rattle.std.proofs.Common.{◌-◌, ◌≤◌}
use Rattle.pcap_walk.specs.Walks.{does_of}
use Rattle.pcap_walk.proofs.Walks.{MeetsTo}
use Rattle.pcap_walk.proofs.walking.walk_shown.Given as goal

abbrev pub invariant-loop-items : goal.invariant-loop-items
invariant-loop-items g l = record {
  met : MeetsTo (g.F.Walker.format (g.F.Walker.setting l.walker)) (does_of g.F.Walker.value g.S.Sink.wants g.S.Sink.gives) (g.F.Walker.state l.walker) l.shown l.rest l.fn.items l.items l.fn.sink l.sink (g.W.Write.contents l.fn.output) (g.W.Write.contents l.output);
  more : l.fn.items ≤ l.items;
  within : l.items ≤ l.most;
}

abbrev pub decreases-loop-items : goal.decreases-loop-items
decreases-loop-items g l = l.most - l.items
