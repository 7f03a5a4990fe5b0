-- Lists of items that are appended one after another.
use Rattle.std.proofs.Common.{◌≡◌, ℕ, ◌<◌, ◌≤◌, ◌+◌, List, [], ◌∷◌, ◌++◌, length, take, sym, ap, subst, ◌∙◌, append_assoc, append-nil, arith, map, get_or}
use Rattle.std.specs.Prelude.{All, Any}
use Rattle.std.specs.List.{flat_map}
use Rattle.std.proofs.lemmas.Grind.{flat_map-append}
use Rattle.std.proofs.lemmas.List.{map_more, length-map, get_or-map, take-map}
use Rattle.std.proofs.lemmas.List.Elements.{All-push}
use Rattle.std.proofs.lemmas.List.Concat.{flat_map-cons}
use Rattle.std.proofs.lemmas.List.Folds.{length-flat_map-take}

-- A fact about one of the items.
pub any_at : {O E : Type 0} (view : O → E) (P : E → Type 0) (items : List O) (i : ℕ) (o : O) → i < length items → o ≡ get_or items i o → P (view o) → Any P (map view items)
any_at view P items i o lt is here =
    (i, view o, omega (arith, lt, length-map items view), get_or-map view items i o (view o) lt ∙ ap view (sym is), here)

-- One more item was appended.
pub puts_more : {O E : Type 0} (view : O → E) (f : E → List ℕ) (items : List O) (i : ℕ) (o : O) (before old new : List ℕ) → i < length items → o ≡ get_or items i o
    → old ≡ before ++ flat_map f (map view (take i items)) → new ≡ old ++ f (view o) → new ≡ before ++ flat_map f (map view (take (i + 1) items))
puts_more view f items i o before old new lt is so_far put =
    let more : map view (take (i + 1) items) ≡ map view (take i items) ++ view o ∷ [] = map_more view items i o lt ∙ ap (λ y. map view (take i items) ++ view y ∷ []) (sym is) in
    let goes : flat_map f (map view (take (i + 1) items)) ≡ flat_map f (map view (take i items)) ++ f (view o) =
    ap (flat_map f) more ∙ flat_map-append f (map view (take i items)) (view o ∷ []) ∙ ap (λ (l : List ℕ). flat_map f (map view (take i items)) ++ l) (flat_map-cons f (view o) [] ∙ append-nil (f (view o))) in
    put ∙ ap (λ (l : List ℕ). l ++ f (view o)) so_far ∙ append_assoc before (flat_map f (map view (take i items))) (f (view o)) ∙ ap (λ (l : List ℕ). before ++ l) (sym goes)

-- All items take at least as many bytes as the first ones and one more.
pub takes_one_more : {O E : Type 0} (view : O → E) (f : E → List ℕ) (items : List O) (i : ℕ) (o : O) → i < length items → o ≡ get_or items i o → length (flat_map f (map view (take i items))) + length (f (view o)) ≤ length (flat_map f (map view items))
takes_one_more view f items i o lt is =
    let all = map view items in
    let here : get_or all i (view o) ≡ view o = get_or-map view items i o (view o) lt ∙ ap view (sym is) in
    let most : length (flat_map f (take i all)) + length (f (get_or all i (view o))) ≤ length (flat_map f all) = length-flat_map-take f all i (view o) (omega (arith, lt, length-map items view)) in
    rw (sym (take-map view i items)) (subst (λ y. length (flat_map f (take i all)) + length (f y) ≤ length (flat_map f all)) here most)

-- If one more item can be written, so can the list that ends with it.
pub fits_more : {O E : Type 0} (view : O → E) (P : E → Type 0) (items : List O) (i : ℕ) (o : O) → i < length items → o ≡ get_or items i o → All P (map view (take i items)) → P (view o) → All P (map view (take (i + 1) items))
fits_more view P items i o lt is all one =
    let more : map view (take (i + 1) items) ≡ map view (take i items) ++ view o ∷ [] = map_more view items i o lt ∙ ap (λ y. map view (take i items) ++ view y ∷ []) (sym is) in
    subst (All P) (sym more) (All-push P (map view (take i items)) (view o) all one)
