use Rattle.std.proofs.Common.{◌≡◌, ◌≤◌, ◌⊎◌, take}
use Rattle.std.specs.Prelude.{All, Contains}
use Rattle.pcapfile_shown.proofs.histogram.largest.Given as goal

abbrev pub invariant-loop-count : goal.invariant-loop-count
invariant-loop-count l = record {
  bound : All (λ count. count ≤ l.largest) (take l.count-index l.counts);
  is : (l.largest ≡ 0) ⊎ Contains (take l.count-index l.counts) l.largest;
}
