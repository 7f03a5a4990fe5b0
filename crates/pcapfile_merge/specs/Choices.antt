-- The choice, among several inputs, of the one that gives the next packet.
use Rattle.std.specs.Prelude.{◌≡◌, ℕ, List, [], ◌∷◌, ◌++◌, length}
use Rattle.std.specs.List.{AllByRecursion}
use Rattle.pcapfile_merge.specs.Merges.{ComesLater, IsNotBefore}

module _ {S P : Type 0} (IsEarlier : P → P → Type 0) (pending : S → List P) where
  -- The first of the sources whose packet is the earliest is at this place and holds this packet.
  pub record Choice (sources : List S) (place : ℕ) (p : P) : Type 0 where
    pub front : List S
    pub source : S
    pub back : List S
    pub place_is : place ≡ length front
    pub sources_are : sources ≡ front ++ source ∷ back
    pub holds : pending source ≡ p ∷ []
    pub later : AllByRecursion (λ (s : S). ComesLater IsEarlier p (pending s)) front
    pub not_before : AllByRecursion (λ (s : S). IsNotBefore IsEarlier p (pending s)) back

-- No source holds a packet.
abbrev pub AllEnded : {S P : Type 0} → (S → List P) → List S → Type 0
AllEnded {S} pending = AllByRecursion (λ (s : S). pending s ≡ [])
