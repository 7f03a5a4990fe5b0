use Rattle.std.proofs.Common.{◌≡◌, ◌<◌, ◌+◌, ℕ, length}
use Rattle.std.specs.Prelude.{slice_index}
use Rattle.pcapfile_run.specs.Passing.{counted}
use Rattle.pcapfile_shown.proofs.total.sizes_together.Given as goal

abbrev pub invariant-loop-class : goal.invariant-loop-class
invariant-loop-class l = (length l.sizes ≡ 10) × ((k : ℕ) → k < l.class → slice_index l.sizes k ≡ counted (slice_index l.fn.one k + slice_index l.fn.other k))
