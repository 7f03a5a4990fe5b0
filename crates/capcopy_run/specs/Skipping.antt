-- This file defines skipping bytes of the input.
use Rattle.std.specs.Prelude.{◌≡◌, ℕ, List, length, Option}
use Rattle.std.specs.Io.KnownBytes.{Consumes}

-- TakesExactly n before after: exactly n bytes were taken from the input.
abbrev pub TakesExactly : ℕ → Option (List ℕ) → Option (List ℕ) → Type 0
TakesExactly n before after = (taken : List ℕ) × Consumes before after taken × (length taken ≡ n)
