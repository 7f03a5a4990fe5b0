-- Values with their padding, and items that follow one another.
use Rattle.std.specs.Prelude.{◌≡◌, ◌+◌, ◌*◌, ◌/◌, ℕ, List, [], ◌∷◌, ◌++◌, length}

-- up_to_4 n is n rounded up to a multiple of 4.
abbrev pub up_to_4 : ℕ → ℕ
up_to_4 n = (n + 3) / 4 * 4

-- Padded v s rest: s is v, then padding bytes of any value up to the next multiple of 4, then rest ('Options').
pub record Padded (v s rest : List ℕ) : Type 0 where
  pub padding : List ℕ
  pub text : s ≡ v ++ padding ++ rest
  pub aligned : length v + length padding ≡ up_to_4 (length v)

-- Behind n s rest: s is n bytes, followed by rest.
pub record Behind (n : ℕ) (s rest : List ℕ) : Type 0 where
  pub bytes : List ℕ
  pub text : s ≡ bytes ++ rest
  pub length_is : length bytes ≡ n

-- Chain IsItem items s rest: s is these items one after another, followed by rest.
abbrev pub Chain : {V : Type 0} → (V → List ℕ → List ℕ → Type 0) → List V → List ℕ → List ℕ → Type 0
Chain IsItem [] s rest = s ≡ rest
Chain IsItem (item ∷ items) s rest = (after : List ℕ) × IsItem item s after × Chain IsItem items after rest
