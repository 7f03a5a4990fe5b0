-- The best of several sources, and one more source.
use Rattle.std.proofs.Common.{◌≡◌, ℕ, List, [], ◌∷◌, ◌++◌, length, refl, sym, ap, ◌∙◌, subst, append_assoc}
use Rattle.std.specs.List.{AllByRecursion}
use Rattle.pcapfile_merge.specs.Choices.{Choice, AllEnded}
use Rattle.pcapfile_merge.specs.Merges.{ComesLater, IsNotBefore}

pub all_push : {S : Type 0} (Q : S → Type 0) (xs : List S) (x : S) → AllByRecursion Q xs → Q x → AllByRecursion Q (xs ++ x ∷ [])
all_push Q [] x all there = (there, tt)
all_push Q (y ∷ xs) x all there = (all.0, all_push Q xs x all.1 there)

all_joined : {S : Type 0} (Q : S → Type 0) (xs ys : List S) → AllByRecursion Q xs → AllByRecursion Q ys → AllByRecursion Q (xs ++ ys)
all_joined Q [] ys left right = right
all_joined Q (x ∷ xs) ys left right = (left.0, all_joined Q xs ys left.1 right)

all_become : {S : Type 0} (Q T : S → Type 0) → ((x : S) → Q x → T x) → (xs : List S) → AllByRecursion Q xs → AllByRecursion T xs
all_become Q T become [] all = tt
all_become Q T become (x ∷ xs) all = (become x all.0, all_become Q T become xs all.1)

module _ {S P : Type 0} (IsEarlier : P → P → Type 0) (pending : S → List P) where
  -- The chosen source stays chosen if the new one isn't earlier.
  pub chosen_stays : (xs : List S) (x : S) (place : ℕ) (p : P) → Choice IsEarlier pending xs place p → IsNotBefore IsEarlier p (pending x) → Choice IsEarlier pending (xs ++ x ∷ []) place p
  chosen_stays xs x place p chosen not_before = record {
    front = chosen.front;
    source = chosen.source;
    back = chosen.back ++ x ∷ [];
    place_is = chosen.place_is;
    sources_are = ap (λ l. l ++ x ∷ []) chosen.sources_are ∙ append_assoc chosen.front (chosen.source ∷ chosen.back) (x ∷ []);
    holds = chosen.holds;
    later = chosen.later;
    not_before = all_push (λ s. IsNotBefore IsEarlier p (pending s)) chosen.back x chosen.not_before not_before;
  }

  -- The last source is chosen if all others come later.
  pub chosen_last : (xs : List S) (x : S) (p : P) → pending x ≡ p ∷ [] → AllByRecursion (λ s. ComesLater IsEarlier p (pending s)) xs → Choice IsEarlier pending (xs ++ x ∷ []) (length xs) p
  chosen_last xs x p holds later = record { front = xs; source = x; back = []; place_is = refl; sources_are = refl; holds = holds; later = later; not_before = tt }

  ended_later : (p : P) (held : List P) → held ≡ [] → ComesLater IsEarlier p held
  ended_later p held none = subst (ComesLater IsEarlier p) (sym none) tt

  pub chosen_first : (xs : List S) (x : S) (p : P) → AllEnded pending xs → pending x ≡ p ∷ [] → Choice IsEarlier pending (xs ++ x ∷ []) (length xs) p
  chosen_first xs x p ended holds = chosen_last xs x p holds (all_become (λ s. pending s ≡ []) (λ s. ComesLater IsEarlier p (pending s)) (λ s none. ended_later p (pending s) none) xs ended)

  module _ (through : (a b c : P) → IsEarlier a b → (IsEarlier c b → ⊥) → IsEarlier a c) (transitive : (a b c : P) → IsEarlier a b → IsEarlier b c → IsEarlier a c) where
    later_through : (q p : P) (held : List P) → IsEarlier q p → ComesLater IsEarlier p held → ComesLater IsEarlier q held
    later_through q p [] earlier later = tt
    later_through q p (r ∷ held) earlier later = transitive q p r earlier later

    not_before_through : (q p : P) (held : List P) → IsEarlier q p → IsNotBefore IsEarlier p held → ComesLater IsEarlier q held
    not_before_through q p [] earlier not_before = tt
    not_before_through q p (r ∷ held) earlier not_before = through q p r earlier not_before

    -- An earlier source replaces the one that was chosen.
    pub chosen_instead : (xs : List S) (x : S) (place : ℕ) (p q : P) → Choice IsEarlier pending xs place p → pending x ≡ q ∷ [] → IsEarlier q p → Choice IsEarlier pending (xs ++ x ∷ []) (length xs) q
    chosen_instead xs x place p q chosen holds earlier =
        let Later : S → Type 0 = λ s. ComesLater IsEarlier q (pending s) in
        let front = all_become (λ s. ComesLater IsEarlier p (pending s)) Later (λ s later. later_through q p (pending s) earlier later) chosen.front chosen.later in
        let back = all_become (λ s. IsNotBefore IsEarlier p (pending s)) Later (λ s not_before. not_before_through q p (pending s) earlier not_before) chosen.back chosen.not_before in
        let here : Later chosen.source = subst (ComesLater IsEarlier q) (sym chosen.holds) earlier in
        let all = all_joined Later chosen.front (chosen.source ∷ chosen.back) front (here, back) in
        chosen_last xs x q holds (subst (AllByRecursion Later) (sym chosen.sources_are) all)
