use Rattle.std.proofs.Common.{take}
use Rattle.pcapfile_selected.specs.Asked.{IsLeast, firsts}
use Rattle.pcapfile_selected.proofs.selecting.least_first.Given as goal

abbrev pub invariant-loop-place : goal.invariant-loop-place
invariant-loop-place l = IsLeast (firsts (take l.place l.ranges)) l.least
