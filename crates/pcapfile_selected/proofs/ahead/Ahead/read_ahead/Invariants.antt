use Rattle.std.proofs.Common.{◌≡◌, ◌-◌, length}
use Rattle.pcapfile_selected.specs.Ahead.{ReadsAhead, held_in}
use Rattle.pcapfile_selected.proofs.ahead.Ahead.read_ahead.Given as goal

abbrev pub invariant-loop-self : goal.invariant-loop-self
invariant-loop-self g l = record {
  ahead : ReadsAhead (held_in l.fn.self) (held_in l.self) (g.R.Read.remaining l.fn.self.input) (g.R.Read.remaining l.self.input);
  array : length l.self.held ≡ 16;
}

abbrev pub decreases-loop-self : goal.decreases-loop-self
decreases-loop-self g l = 16 - l.self.len
