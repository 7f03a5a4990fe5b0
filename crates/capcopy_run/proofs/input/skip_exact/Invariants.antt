use Rattle.std.proofs.Common.{◌≤◌, ◌-◌}
use Rattle.capcopy_run.specs.Skipping.{TakesExactly}
use Rattle.capcopy_run.proofs.input.skip_exact.Given as goal

abbrev pub invariant-loop-missing : goal.invariant-loop-missing
invariant-loop-missing g l = record {
  within : l.missing ≤ l.n;
  skipped : TakesExactly (l.n - l.missing) (g.R.Read.remaining l.fn.input) (g.R.Read.remaining l.input);
}

abbrev pub decreases-loop-missing : goal.decreases-loop-missing
decreases-loop-missing g l = l.missing
