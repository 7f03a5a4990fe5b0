-- The entries of packet records.
use Rattle.std.specs.Prelude.{◌+◌, ℕ, List, [], ◌∷◌, length, take, drop, IsPermutation}
use Rattle.std.specs.List.Sorted.{IsNonDecreasingBy, IsStableByKey}
use Rattle.std.specs.Ordering.{nat_cmp}
use Rattle.pcapfile_sort.specs.declared.entry.Entry.{Entry}
use Rattle.pcapfile_sort.specs.Ranked.{Ranked}

-- The entry of a record after this many bytes.
abbrev pub entry_of : ℕ → Ranked → Entry
entry_of place ranked = record { rank = ranked.rank; place = place; length = length ranked.text }

-- The entries of records after this many bytes.
abbrev pub entries_of : ℕ → List Ranked → List Entry
entries_of place [] = []
entries_of place (ranked ∷ others) = entry_of place ranked ∷ entries_of (place + length ranked.text) others

-- The record to which an entry leads in these bytes.
abbrev pub led_to : List ℕ → Entry → Ranked
led_to bytes entry = record { rank = entry.rank; text = take entry.length (drop entry.place bytes) }

-- These are the same entries in order of rank, and the entries of each rank keep their order.
pub record AreInOrder (entries sorted : List Entry) : Type 0 where
  pub same : IsPermutation entries sorted
  pub ordered : IsNonDecreasingBy (λ (entry : Entry). entry.rank) sorted
  pub stable : IsStableByKey (λ (entry : Entry). entry.rank) nat_cmp entries sorted
