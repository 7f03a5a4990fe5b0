-- This file defines how messages count things.
use Rattle.std.specs.Prelude.{ℕ, List, ◌++◌, ◌==◌, codes, if◌then◌else◌}
use Rattle.std.specs.Fmt.{decimal}

-- The text of a number of things: the number, and the first phrase for one thing or the second for any other number.
abbrev pub count_text : ℕ → List ℕ → List ℕ → List ℕ
count_text n one several = decimal n ++ (codes " " ++ (if n == 1 then one else several))
