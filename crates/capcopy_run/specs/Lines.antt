-- This file defines the lines of items.
use Rattle.std.specs.Prelude.{◌≡◌, ℕ, suc, List, [], ◌∷◌, ◌++◌}

-- AreLines IsLine index items bytes: `bytes` are the lines of these items, and `index` is the index of the first.
abbrev pub AreLines : {V : Type 0} → (ℕ → V → List ℕ → Type 0) → ℕ → List V → List ℕ → Type 0
AreLines IsLine index [] bytes = bytes ≡ []
AreLines IsLine index (item ∷ others) bytes =
    (line : List ℕ) × (lines : List ℕ) × IsLine index item line × AreLines IsLine (suc index) others lines × (bytes ≡ line ++ lines)
