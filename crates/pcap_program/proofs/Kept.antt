-- This file proves that calls which take or write nothing can be left out.
use Rattle.std.proofs.Common.{◌≡◌, ◌++◌, ℕ, List, Some, None, sym, subst, ◌∙◌}
use Rattle.std.specs.Prelude.{Option}
use Rattle.std.specs.Io.KnownBytes.{Appends, Consumes, Keeps}

-- Bytes taken after a step that takes nothing are taken from the start.
pub kept_taken : (a b c : Option (List ℕ)) (t : List ℕ) → Keeps a b → Consumes b c t → Consumes a c t
kept_taken None b c t kept took = tt
kept_taken (Some x) None c t kept took = absurd kept
kept_taken (Some x) (Some y) None t kept took = absurd took
kept_taken (Some x) (Some y) (Some z) t kept took = sym kept ∙ took

-- Bytes appended after a step that writes nothing are appended to the start.
pub kept_appended : (a b c : Option (List ℕ)) (t : List ℕ) → Keeps a b → Appends b c t → Appends a c t
kept_appended None b c t kept wrote = tt
kept_appended (Some x) None c t kept wrote = absurd kept
kept_appended (Some x) (Some y) None t kept wrote = absurd wrote
kept_appended (Some x) (Some y) (Some z) t kept wrote = subst (λ before. z ≡ before ++ t) kept wrote
