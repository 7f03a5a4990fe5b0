use Rattle.std.proofs.Common.{◌≡◌, ◌≤◌, ◌-◌}
use Rattle.capcopy_run.specs.Listing.{Listing}
use Rattle.capcopy_run.proofs.items.list_items.Given as goal

abbrev pub invariant-loop-listed : goal.invariant-loop-listed
invariant-loop-listed g l = record {
  same : g.L.Lister.setting l.lister ≡ g.L.Lister.setting l.fn.lister;
  so_far : Listing (g.L.Lister.is_line (g.L.Lister.setting l.fn.lister)) (g.L.Lister.format (g.L.Lister.setting l.fn.lister)) (g.L.Lister.state l.fn.lister) (g.L.Lister.state l.lister) (g.R.Read.remaining l.fn.input) (g.R.Read.remaining l.input) (g.W.Write.contents l.fn.output) (g.W.Write.contents l.output) l.listed;
  within : l.listed ≤ l.most;
}

abbrev pub decreases-loop-listed : goal.decreases-loop-listed
decreases-loop-listed g l = l.most - l.listed
