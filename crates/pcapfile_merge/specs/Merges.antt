-- Merges of the packets of several inputs.
use Rattle.std.specs.Prelude.{⊤, ◌≡◌, ◌==◌, if◌then◌else◌, ℕ, List, [], ◌∷◌, ◌++◌, length}
use Rattle.std.specs.List.{AllByRecursion, flat_map}

-- The order of a merge says which packets are earlier than others.
module _ {P : Type 0} (IsEarlier : P → P → Type 0) where
  -- ComesLater p packets: the first of these packets, if there is one, is later than p.
  abbrev pub ComesLater : P → List P → Type 0
  ComesLater p [] = ⊤
  ComesLater p (q ∷ qs) = IsEarlier p q

  -- IsNotBefore p packets: the first of these packets, if there is one, is not earlier than p.
  abbrev pub IsNotBefore : P → List P → Type 0
  IsNotBefore p [] = ⊤
  IsNotBefore p (q ∷ qs) = IsEarlier q p → ⊥

  -- The first of the inputs whose next packet is the earliest gives it, and these packets are left.
  pub record Gives (inputs : List (List P)) (place : ℕ) (p : P) (left : List (List P)) : Type 0 where
    pub front : List (List P)
    pub rest : List P
    pub back : List (List P)
    pub place_is : place ≡ length front
    pub inputs_are : inputs ≡ front ++ (p ∷ rest) ∷ back
    pub left_are : left ≡ front ++ rest ∷ back
    pub later : AllByRecursion (ComesLater p) front
    pub not_before : AllByRecursion (IsNotBefore p) back

  -- Merges inputs out left: the inputs give the packets of `out` in turn, each with the index of its input, and `left` is left.
  abbrev pub Merges : List (List P) → List (ℕ × P) → List (List P) → Type 0
  Merges inputs [] left = inputs ≡ left
  Merges inputs (given ∷ out) left = (between : List (List P)) × Gives inputs given.0 given.1 between × Merges between out left

  -- No packet is earlier than the one before it.
  abbrev pub IsSorted : List P → Type 0
  IsSorted [] = ⊤
  IsSorted (p ∷ ps) = IsNotBefore p ps × IsSorted ps

-- The packets among these that the input at this index gave.
abbrev pub given_by : {P : Type 0} → ℕ → List (ℕ × P) → List P
given_by place [] = []
given_by place (given ∷ out) = if given.0 == place then given.1 ∷ given_by place out else given_by place out

-- The packets of these inputs, one input after another.
abbrev pub in_a_row : {P : Type 0} → List (List P) → List P
in_a_row {P} inputs = flat_map (λ (packets : List P). packets) inputs
