-- Text-mode transfers, undone and recognized.
use Rattle.std.proofs.Common.{◌≡◌, ◌∷◌, [], ℕ, List, Bool, true, false, length, refl, sym, ap, subst, ◌∙◌, arith}
use Rattle.std.proofs.lemmas.Bool.{eqb-true, false≢true}
use Rattle.std.specs.Prelude.{◌==◌, ◌&&◌, ◌↔◌, IsTrue, if◌then◌else◌}
use Rattle.pcap_altered.specs.LineEnds.{IsTransferred, begins_with_feed, undone, transferred}

-- What was transferred doesn't begin with a line feed.
first_is_no_feed : (s : List ℕ) → begins_with_feed (transferred s) ≡ false
first_is_no_feed [] = refl
first_is_no_feed (x ∷ xs) = by_first x xs (x == 10) refl where
  by_first : (x : ℕ) (xs : List ℕ) (is_feed : Bool) → (x == 10) ≡ is_feed → begins_with_feed (transferred (x ∷ xs)) ≡ false
  by_first x xs true e = rw e refl
  by_first x xs false e = rw e e

other_byte : (x : ℕ) (t xs : List ℕ) (is_return : Bool) → (x == 13) ≡ is_return → begins_with_feed t ≡ false → undone t ≡ xs → undone (x ∷ t) ≡ x ∷ xs
other_byte x t xs true e none again =
    let here : undone (13 ∷ t) ≡ 13 ∷ xs = rw (none, again) refl in
    subst (λ (y : ℕ). undone (y ∷ t) ≡ y ∷ xs) (sym (eqb-true x 13 e)) here
other_byte x t xs false e none again = rw (e, again) refl

each_byte : (x : ℕ) (xs : List ℕ) (is_feed : Bool) → (x == 10) ≡ is_feed → undone (transferred xs) ≡ xs → undone (transferred (x ∷ xs)) ≡ x ∷ xs
each_byte x xs true e again = subst (λ (y : ℕ). undone (transferred (y ∷ xs)) ≡ y ∷ xs) (sym (eqb-true x 10 e)) (ap (λ (l : List ℕ). 10 ∷ l) again)
each_byte x xs false e again = rw e (other_byte x (transferred xs) xs (x == 13) refl (first_is_no_feed xs) again)

-- Undoing a transfer gives back what was transferred.
pub transferred_undone : (s : List ℕ) → undone (transferred s) ≡ s
transferred_undone [] = refl
transferred_undone (x ∷ xs) = each_byte x xs (x == 10) refl (transferred_undone xs)

-- Whether each line feed is after a carriage return, if the byte before is one or not.
abbrev pub each_after : Bool → List ℕ → Bool
each_after after [] = true
each_after after (x ∷ xs) = if x == 10 then after && each_after false xs else each_after (x == 13) xs

each_more : (after : Bool) (x : ℕ) (xs : List ℕ) (is_feed : Bool) → (x == 10) ≡ is_feed → ((b : Bool) → each_after b (transferred xs) ≡ true) → each_after after (transferred (x ∷ xs)) ≡ true
each_more after x xs true e again = subst (λ (y : ℕ). each_after after (transferred (y ∷ xs)) ≡ true) (sym (eqb-true x 10 e)) (again false)
each_more after x xs false e again = rw (e, e) (again (x == 13))

-- In what was transferred, each line feed is after a carriage return.
transferred_each : (after : Bool) (s : List ℕ) → each_after after (transferred s) ≡ true
transferred_each after [] = refl
transferred_each after (x ∷ xs) = each_more after x xs (x == 10) refl (λ b. transferred_each b xs)

-- Bytes in which each line feed is after a carriage return come back when they are undone and transferred again.
record Back (s : List ℕ) : Type 0 where
  pub here : each_after false s ≡ true → transferred (undone s) ≡ s
  pub behind : each_after true s ≡ true → transferred (undone (13 ∷ s)) ≡ 13 ∷ s

back_feed : (xs : List ℕ) → Back xs → Back (10 ∷ xs)
back_feed xs again = record { here = λ e. absurd (false≢true e); behind = λ e. ap (λ (l : List ℕ). 13 ∷ 10 ∷ l) (again.here e) }

back_return : (xs : List ℕ) → Back xs → Back (13 ∷ xs)
back_return xs again = record { here = again.behind; behind = λ e. ap (λ (l : List ℕ). 13 ∷ l) (again.behind e) }

back_other : (x : ℕ) (xs : List ℕ) → (x == 10) ≡ false → (x == 13) ≡ false → Back xs → Back (x ∷ xs)
back_other x xs no_feed no_return again = record {
  here = rw (no_feed, no_return, no_feed) (λ e. ap (λ (l : List ℕ). x ∷ l) (again.here e));
  behind = rw (no_feed, no_return, no_feed) (λ e. ap (λ (l : List ℕ). 13 ∷ x ∷ l) (again.here e));
}

back_more : (x : ℕ) (xs : List ℕ) (is_feed is_return : Bool) → (x == 10) ≡ is_feed → (x == 13) ≡ is_return → Back xs → Back (x ∷ xs)
back_more x xs true is_return e e' again = subst (λ (y : ℕ). Back (y ∷ xs)) (sym (eqb-true x 10 e)) (back_feed xs again)
back_more x xs false true e e' again = subst (λ (y : ℕ). Back (y ∷ xs)) (sym (eqb-true x 13 e')) (back_return xs again)
back_more x xs false false e e' again = back_other x xs e e' again

back : (s : List ℕ) → Back s
back [] = record { here = λ e. refl; behind = λ e. refl }
back (x ∷ xs) = back_more x xs (x == 10) (x == 13) refl refl (back xs)

-- Bytes are those of a transfer if and only if each line feed is after a carriage return.
pub recognized : (s : List ℕ) (is : Bool) → each_after false s ≡ is → (IsTrue is ↔ IsTransferred s)
recognized s true e = (λ yes. (undone s, (back s).here e), λ given. refl)
recognized s false e = (λ no. absurd (false≢true no), λ given. absurd (false≢true (sym e ∙ subst (λ (t : List ℕ). each_after false t ≡ true) given.1 (transferred_each false given.0))))

-- A line feed that is not after a carriage return is none of a transfer.
pub refused : (after : Bool) (x : ℕ) (xs s : List ℕ) → s ≡ x ∷ xs → x ≡ 10 → after ≡ false → each_after after s ≡ false
refused after x xs s split same unset = rw (split, same, unset) refl

-- At the end, no line feed is left.
pub ended : (after : Bool) (s : List ℕ) → length s ≡ 0 → each_after after s ≡ true
ended after [] none = refl
ended after (x ∷ xs) none = absurd (omega (arith, none))
