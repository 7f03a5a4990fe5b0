-- Lemmas on the largest of several numbers, compared one after another.
use Rattle.std.proofs.Common.{◌≡◌, ◌<◌, ◌≤◌, ◌+◌, ◌⊎◌, ℕ, List, [], ◌∷◌, ◌++◌, length, take, get_or, max, refl, sym, subst, inl, inr, arith}
use Rattle.std.specs.Prelude.{All, Contains}
use Rattle.std.proofs.lemmas.Bool.{cases_lt}
use Rattle.std.proofs.lemmas.List.{take_all, take_more}
use Rattle.std.proofs.lemmas.List.Elements.{All-more, All-weaker, Contains-append_left, Contains-append_right}

pub bound_more : (xs : List ℕ) (i most new : ℕ) → i < length xs → All (λ (n : ℕ). n ≤ most) (take i xs) → new ≡ max (get_or xs i 0) most → All (λ (n : ℕ). n ≤ new) (take (i + 1) xs)
bound_more xs i most new lt before is =
    All-more (λ (n : ℕ). n ≤ new) xs i 0 lt (All-weaker (λ (n : ℕ). n ≤ most) (λ (n : ℕ). n ≤ new) (λ n le. omega (arith, le, is)) (take i xs) before) (omega (arith, is))

pub largest_more : (xs : List ℕ) (i most new : ℕ) → i < length xs → (most ≡ 0) ⊎ Contains (take i xs) most → new ≡ max (get_or xs i 0) most → (new ≡ 0) ⊎ Contains (take (i + 1) xs) new
largest_more xs i most new lt before is =
    let x = get_or xs i 0 in
    let parts : take (i + 1) xs ≡ take i xs ++ x ∷ [] = take_more xs i 0 lt in
    elim (cases_lt most x) [
      | inl less ↦
          let same : x ≡ new = omega (arith, is, less) in
          inr (subst (λ (t : List ℕ). Contains t new) (sym parts) (subst (λ (n : ℕ). Contains (take i xs ++ x ∷ []) n) same (Contains-append_right (take i xs) (x ∷ []) x (0, omega arith, refl))))
      | inr more ↦
          let same : most ≡ new = omega (arith, is, more) in
          elim before [
            | inl none ↦ inl (omega (arith, none, same))
            | inr there ↦ inr (subst (λ (t : List ℕ). Contains t new) (sym parts) (Contains-append_left (take i xs) (x ∷ []) new (subst (λ (n : ℕ). Contains (take i xs) n) same there)))
          ]
    ]

pub all_bound : (xs : List ℕ) (i most : ℕ) → length xs ≤ i → All (λ (n : ℕ). n ≤ most) (take i xs) → All (λ (n : ℕ). n ≤ most) xs
all_bound xs i most le before = subst (All (λ (n : ℕ). n ≤ most)) (take_all i xs le) before
