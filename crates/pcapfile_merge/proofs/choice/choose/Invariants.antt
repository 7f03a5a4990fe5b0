use Rattle.std.proofs.Common.{take}
use Rattle.pcapfile_merge.specs.Choosing.{IsBest}
use Rattle.pcapfile_merge.proofs.choice.choose.Given as goal

abbrev pub invariant-loop-place : goal.invariant-loop-place
invariant-loop-place g l = IsBest l.order (take l.place l.sources) l.best
