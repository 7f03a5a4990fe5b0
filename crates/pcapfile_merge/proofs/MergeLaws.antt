-- Proofs of the laws of merges.
use Rattle.std.proofs.Common.{◌≡◌, ◌≢◌, ◌==◌, ℕ, zero, suc, Bool, true, false, List, [], ◌∷◌, ◌++◌, map, length, get_or, if◌then◌else◌, refl, sym, ap, ◌∙◌, subst, arith}
use Rattle.std.specs.List.{AllByRecursion}
use Rattle.pcapfile_merge.specs.Merges.{ComesLater, IsNotBefore, Gives, Merges, IsSorted, given_by, in_a_row}

-- What holds of all items of a joined list holds of all items of its parts.
all_split : {S : Type 0} (Q : S → Type 0) (xs : List S) (x : S) (ys : List S) → AllByRecursion Q (xs ++ x ∷ ys) → AllByRecursion Q xs × Q x × AllByRecursion Q ys
all_split Q [] x ys all = (tt, all.0, all.1)
all_split Q (y ∷ xs) x ys all = let there = all_split Q xs x ys all.1 in ((all.0, there.0), there.1, there.2)

all_join : {S : Type 0} (Q : S → Type 0) (xs : List S) (x : S) (ys : List S) → AllByRecursion Q xs → Q x → AllByRecursion Q ys → AllByRecursion Q (xs ++ x ∷ ys)
all_join Q [] x ys left here right = (here, right)
all_join Q (y ∷ xs) x ys left here right = (left.0, all_join Q xs x ys left.1 here right)

all_change : {S : Type 0} (Q T : S → Type 0) → ((x : S) → Q x → T x) → (xs : List S) → AllByRecursion Q xs → AllByRecursion T xs
all_change Q T become [] all = tt
all_change Q T become (x ∷ xs) all = (become x all.0, all_change Q T become xs all.1)

module _ {P : Type 0} (IsEarlier : P → P → Type 0) (asymmetric : (a b : P) → IsEarlier a b → IsEarlier b a → ⊥) where
  not_before_later : (p : P) (ps : List P) → ComesLater IsEarlier p ps → IsNotBefore IsEarlier p ps
  not_before_later p [] later = tt
  not_before_later p (q ∷ ps) later = λ earlier. asymmetric p q later earlier

  -- What the inputs give after a packet is not before it.
  next_not_before : (p : P) (inputs : List (List P)) (out : List (ℕ × P)) (left : List (List P)) → AllByRecursion (IsNotBefore IsEarlier p) inputs → Merges IsEarlier inputs out left
      → IsNotBefore IsEarlier p (map (λ (o : ℕ × P). o.1) out)
  next_not_before p inputs [] left all merges = tt
  next_not_before p inputs (o ∷ out) left all merges =
      let gives = merges.1 in
      (all_split (IsNotBefore IsEarlier p) gives.front (o.1 ∷ gives.rest) gives.back (subst (AllByRecursion (IsNotBefore IsEarlier p)) gives.inputs_are all)).1

  -- If the inputs are sorted, so is what they give.
  pub merges_sorted : (inputs : List (List P)) (out : List (ℕ × P)) (left : List (List P)) → AllByRecursion (IsSorted IsEarlier) inputs → Merges IsEarlier inputs out left
      → IsSorted IsEarlier (map (λ (o : ℕ × P). o.1) out)
  merges_sorted inputs [] left sorted merges = tt
  merges_sorted inputs (o ∷ out) left sorted merges =
      let between = merges.0 in
      let gives = merges.1 in
      let parts = all_split (IsSorted IsEarlier) gives.front (o.1 ∷ gives.rest) gives.back (subst (AllByRecursion (IsSorted IsEarlier)) gives.inputs_are sorted) in
      let after = all_join (IsSorted IsEarlier) gives.front gives.rest gives.back parts.0 parts.1.1 parts.2 in
      let before = all_join (IsNotBefore IsEarlier o.1) gives.front gives.rest gives.back (all_change (ComesLater IsEarlier o.1) (IsNotBefore IsEarlier o.1) (not_before_later o.1) gives.front gives.later) parts.1.0 gives.not_before in (
        next_not_before o.1 between out left (subst (AllByRecursion (IsNotBefore IsEarlier o.1)) (sym gives.left_are) before) merges.2,
        merges_sorted between out left (subst (AllByRecursion (IsSorted IsEarlier)) (sym gives.left_are) after) merges.2,
      )

at_seam : {P : Type 0} (front : List (List P)) (x : List P) (back : List (List P)) → get_or (front ++ x ∷ back) (length front) [] ≡ x
at_seam [] x back = refl
at_seam (f ∷ front) x back = at_seam front x back

elsewhere : {P : Type 0} (front : List (List P)) (x y : List P) (back : List (List P)) (place : ℕ) → length front ≢ place → get_or (front ++ x ∷ back) place [] ≡ get_or (front ++ y ∷ back) place []
elsewhere [] x y back zero other = absurd (other refl)
elsewhere [] x y back (suc place) other = refl
elsewhere (f ∷ front) x y back zero other = refl
elsewhere (f ∷ front) x y back (suc place) other = elsewhere front x y back place (λ same. other (ap suc same))

module _ {P : Type 0} (IsEarlier : P → P → Type 0) where
  given_here : (place : ℕ) (same : Bool) (o : ℕ × P) (out : List (ℕ × P)) (inputs between : List (List P)) (left : List P) → (o.0 == place) ≡ same → Gives IsEarlier inputs o.0 o.1 between
      → get_or between place [] ≡ given_by place out ++ left → get_or inputs place [] ≡ (if same then o.1 ∷ given_by place out else given_by place out) ++ left
  given_here place true o out inputs between left same gives rest =
      let here : length gives.front ≡ place = grind (arith, same, gives.place_is) in
      let old : get_or inputs place [] ≡ o.1 ∷ gives.rest = rw (gives.inputs_are, ← here) (at_seam gives.front (o.1 ∷ gives.rest) gives.back) in
      let new : get_or between place [] ≡ gives.rest = rw (gives.left_are, ← here) (at_seam gives.front gives.rest gives.back) in
      old ∙ ap (λ l. o.1 ∷ l) (sym new ∙ rest)
  given_here place false o out inputs between left same gives rest =
      let other : length gives.front ≢ place = λ e. absurd (let no : ⊥ = grind (arith, same, gives.place_is, e) in no) in
      let old : get_or inputs place [] ≡ get_or between place [] = rw (gives.inputs_are, gives.left_are) (elsewhere gives.front (o.1 ∷ gives.rest) gives.rest gives.back place other) in
      old ∙ rest

  -- The packets that an input gave, and then those left in it, are its packets in order.
  pub merges_keep : (place : ℕ) (inputs : List (List P)) (out : List (ℕ × P)) (left : List (List P)) → Merges IsEarlier inputs out left
      → get_or inputs place [] ≡ given_by place out ++ get_or left place []
  merges_keep place inputs [] left merges = ap (λ l. get_or l place []) merges
  merges_keep place inputs (o ∷ out) left merges =
      given_here place (o.0 == place) o out inputs merges.0 (get_or left place []) refl merges.1 (merges_keep place merges.0 out left merges.2)

module _ {P : Type 0} (IsEarlier : P → P → Type 0) (never : (a b : P) → IsEarlier a b → ⊥) where
  -- If no packet is earlier than another, the inputs before the one that gives a packet have none.
  row_behind : (p : P) (front more : List (List P)) → AllByRecursion (ComesLater IsEarlier p) front → in_a_row (front ++ more) ≡ in_a_row more
  row_behind p [] more all = refl
  row_behind p ([] ∷ front) more all = row_behind p front more all.1
  row_behind p ((q ∷ qs) ∷ front) more all = absurd (never p q all.0)

  -- The packets that the inputs gave, and then those left in them, are those of one input after another.
  pub merges_in_a_row : (inputs : List (List P)) (out : List (ℕ × P)) (left : List (List P)) → Merges IsEarlier inputs out left → in_a_row inputs ≡ map (λ (o : ℕ × P). o.1) out ++ in_a_row left
  merges_in_a_row inputs [] left merges = ap in_a_row merges
  merges_in_a_row inputs (o ∷ out) left merges =
      let gives = merges.1 in
      let old : in_a_row inputs ≡ o.1 ∷ (gives.rest ++ in_a_row gives.back) = ap in_a_row gives.inputs_are ∙ row_behind o.1 gives.front ((o.1 ∷ gives.rest) ∷ gives.back) gives.later in
      let new : in_a_row merges.0 ≡ gives.rest ++ in_a_row gives.back = ap in_a_row gives.left_are ∙ row_behind o.1 gives.front (gives.rest ∷ gives.back) gives.later in
      old ∙ ap (λ l. o.1 ∷ l) (sym new ∙ merges_in_a_row merges.0 out left merges.2)
