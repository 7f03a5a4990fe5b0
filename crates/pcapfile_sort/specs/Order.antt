-- The order of ranks.
use Rattle.std.specs.Prelude.{◌≡◌, ◌==◌, ℕ, List, filter, IsPermutation}
use Rattle.std.specs.List.Sorted.{IsNonDecreasingBy}
use Rattle.pcapfile_sort.specs.Ranked.{Ranked}

-- Those of these records that have this rank.
abbrev pub at_rank : ℕ → List Ranked → List Ranked
at_rank rank records = filter (λ (ranked : Ranked). ranked.rank == rank) records

-- These are the same records in order of rank, and the records of each rank keep their order.
pub record IsInOrder (records sorted : List Ranked) : Type 0 where
  pub same : IsPermutation records sorted
  pub ordered : IsNonDecreasingBy (λ (ranked : Ranked). ranked.rank) sorted
  pub stable : (rank : ℕ) → at_rank rank sorted ≡ at_rank rank records
