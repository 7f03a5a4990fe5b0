-- Bytes of a capture that are read again.
use Rattle.std.specs.Prelude.{⊤, ◌≡◌, ◌++◌, ℕ, List, length, Option, Some, None}

-- The bytes have this part after a beginning of this length.
pub record IsAt (place : ℕ) (part bytes : List ℕ) : Type 0 where
  pub before : List ℕ
  pub after : List ℕ
  pub split : bytes ≡ before ++ (part ++ after)
  pub place_is : length before ≡ place

-- The bytes, if they are known, have this part there.
abbrev pub GivesAt : Option (List ℕ) → ℕ → List ℕ → Type 0
GivesAt None place part = ⊤
GivesAt (Some bytes) place part = IsAt place part bytes
