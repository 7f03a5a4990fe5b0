-- This file proves how skipped bytes add up.
use Rattle.std.proofs.Common.{◌≡◌, ◌≤◌, ◌+◌, ℕ, List, ◌++◌, length, take, ◌∙◌, arith, length-append}
use Rattle.std.specs.Prelude.{Option}
use Rattle.std.specs.Io.KnownBytes.{Consumes}
use Rattle.std.proofs.KnownBytes.{Consumes-trans}
use Rattle.std.proofs.lemmas.List.{length-take-le}
use Rattle.capcopy_run.specs.Skipping.{TakesExactly}

-- After n bytes, k more are skipped from the front of the buffered bytes.
pub skipped_more : (n k m : ℕ) (a b c : Option (List ℕ)) (shown : List ℕ) → TakesExactly n a b → k ≤ length shown → m ≡ n + k → Consumes b c (take k shown) → TakesExactly m a c
skipped_more n k m a b c shown skipped within sum came = (
  skipped.0 ++ take k shown,
  Consumes-trans a b c skipped.0 (take k shown) skipped.1 came,
  length-append skipped.0 (take k shown) ∙ omega (arith, skipped.2, length-take-le k shown within, sum),
)
