-- The least first number of some ranges.
use Rattle.std.proofs.Common.{◌≡◌, ◌∙◌, ◌+◌, ◌<◌, ◌≤◌, ◌++◌, ℕ, List, [], ◌∷◌, length, take, get_or, All, Contains, Option, None, Some, arith, ap, inl, inr, refl, subst, sym}
use Rattle.std.proofs.lemmas.List.{map-append, take_all, take_more}
use Rattle.std.proofs.lemmas.List.Elements.{All-nil, All-push, All-weaker, Contains-append_left, Contains-push}
use Rattle.pcapfile_cut.specs.declared.selection.Range.{Range}
use Rattle.pcapfile_selected.specs.Asked.{IsLeast, IsLeastFirst, IsLesser, firsts}

least_of : (numbers : List ℕ) (n least : ℕ) → least ≡ n → Contains (numbers ++ n ∷ []) n × All (λ m. n ≤ m) (numbers ++ n ∷ [])
    → IsLeast (numbers ++ n ∷ []) (Some least)
least_of numbers n least same holds = subst (λ (m : ℕ). IsLeast (numbers ++ n ∷ []) (Some m)) (sym same) holds

-- The least one of one more number.
least_push : (numbers : List ℕ) (known : Option ℕ) (n least : ℕ) → IsLeast numbers known → IsLesser known n least
    → IsLeast (numbers ++ n ∷ []) (Some least)
least_push numbers None n least none same =
    least_of numbers n least same
    (Contains-push numbers n, All-push (λ m. n ≤ m) numbers n (subst (λ (l : List ℕ). All (λ m. n ≤ m) l) (sym none) (All-nil (λ m. n ≤ m))) (omega arith))
least_push numbers (Some known) n least (among, below) (inl (le, same)) =
    subst (λ (m : ℕ). IsLeast (numbers ++ n ∷ []) (Some m)) (sym same)
    (Contains-append_left numbers (n ∷ []) known among, All-push (λ m. known ≤ m) numbers n below le)
least_push numbers (Some known) n least (among, below) (inr (lt, same)) =
    least_of numbers n least same
    (Contains-push numbers n, All-push (λ m. n ≤ m) numbers n (All-weaker (λ m. known ≤ m) (λ m. n ≤ m) (λ m le. omega (arith, le, lt)) numbers below) (omega arith))

-- One turn takes one more range.
pub least_turn : (ranges : List Range) (place : ℕ) (other : Range) (known : Option ℕ) (least : ℕ) → place < length ranges
    → IsLeast (firsts (take place ranges)) known → IsLesser known (get_or ranges place other).first least
    → IsLeast (firsts (take (place + 1) ranges)) (Some least)
least_turn ranges place other known least within so_far lesser =
    let range = get_or ranges place other in
    let each : firsts (take (place + 1) ranges) ≡ firsts (take place ranges) ++ range.first ∷ [] =
    ap firsts (take_more ranges place other within) ∙ map-append (λ (r : Range). r.first) (take place ranges) (range ∷ []) in
    subst (λ (l : List ℕ). IsLeast l (Some least)) (sym each) (least_push (firsts (take place ranges)) known range.first least so_far lesser)

no_ranges : (ranges : List Range) → firsts ranges ≡ [] → ranges ≡ []
no_ranges [] none = refl
no_ranges (range ∷ ranges) none = absurd cc

-- The number that was found is the least of all.
pub least_found : (ranges : List Range) (n least : ℕ) → length ranges ≤ n → IsLeast (firsts (take n ranges)) (Some least) → IsLeastFirst ranges least
least_found ranges n least all found = inl (subst (λ (l : List Range). IsLeast (firsts l) (Some least)) (take_all n ranges all) found)

-- Without a range there is no number.
pub least_none : (ranges : List Range) (n : ℕ) → length ranges ≤ n → IsLeast (firsts (take n ranges)) None → IsLeastFirst ranges 1
least_none ranges n all none = inr (no_ranges ranges (subst (λ (l : List Range). IsLeast (firsts l) None) (take_all n ranges all) none), refl)
