-- This file defines numbers as they are counted in 64 bits.
use Rattle.std.specs.Prelude.{◌-◌, ◌^◌, ℕ, min}

-- A number as it is counted: the greatest number of 64 bits also represents all above it.
abbrev pub counted : ℕ → ℕ
counted n = min n (2 ^ 64 - 1)
