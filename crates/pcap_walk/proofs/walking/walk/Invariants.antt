use Rattle.std.proofs.Common.{◌-◌, ◌≡◌, ◌≤◌, [], false}
use Rattle.pcap_walk.specs.Walks.{does_of, Walks}
use Rattle.pcap_walk.proofs.walking.walk.Given as goal

abbrev pub invariant-loop-walked : goal.invariant-loop-walked
invariant-loop-walked g l = record {
  so_far : Walks (g.F.Walker.format (g.F.Walker.setting l.fn.walker)) (does_of g.F.Walker.value g.S.Sink.wants g.S.Sink.gives) (g.F.Walker.state l.fn.walker) (g.F.Walker.state l.walker) (g.R.Read.remaining l.fn.input) (g.R.Read.remaining l.input)
      l.fn.walked.items l.walked.items l.fn.sink l.sink (g.W.Write.contents l.fn.output) (g.W.Write.contents l.output);
  same : g.F.Walker.setting l.walker ≡ g.F.Walker.setting l.fn.walker;
  between : g.F.Walker.held l.walker ≡ [];
  unfailed : l.walked.read_failed ≡ false;
  within : l.walked.items ≤ l.most;
}

abbrev pub decreases-loop-walked : goal.decreases-loop-walked
decreases-loop-walked g l = l.most - l.walked.items
