-- The first item of a list for which a function gives something.
use Rattle.std.proofs.Common.{◌≡◌, ℕ, ◌+◌, ◌<◌, suc, List, [], ◌∷◌, ◌++◌, length, get_or, take, drop, map, ap, sym, ◌∙◌, add-one, Option, Some, None}
use Rattle.std.specs.Prelude.{slice_get}
use Rattle.std.specs.List.{filter_map, cons_option}
use Rattle.std.proofs.lemmas.List.{take-append-drop, map-append}
use Rattle.std.proofs.lemmas.List.Elements.{filter_map-append}
use Rattle.std.proofs.Math.Seq.{take-suc, drop-cons}

-- A function's results for two joined lists are its results for each list, joined.
given_of_both : {O E X : Type 0} (view : O → E) (h : E → Option X) (xs ys : List O) → filter_map h (map view (xs ++ ys)) ≡ filter_map h (map view xs) ++ filter_map h (map view ys)
given_of_both view h xs ys = ap (λ l. filter_map h l) (map-append view xs ys) ∙ filter_map-append h (map view xs) (map view ys)

-- The first item for which the function gives something decides the result for the whole list.
pub found : {O E X : Type 0} (view : O → E) (h : E → Option X) (items : List O) (i : ℕ) (o : O) (seen : E) (x : X) → i < length items → o ≡ get_or items i o → filter_map h (map view (take i items)) ≡ [] → seen ≡ view o → Some x ≡ h seen
    → Some x ≡ slice_get (filter_map h (map view items)) 0
found view h items i o seen x within is before sees here =
    let rest = filter_map h (map view (drop (suc i) items)) in
    let from_here : drop i items ≡ o ∷ drop (suc i) items = drop-cons items i o within ∙ ap (λ y. y ∷ drop (suc i) items) (sym is) in
    let whole : items ≡ take i items ++ (o ∷ drop (suc i) items) = sym (take-append-drop i items) ∙ ap (λ l. take i items ++ l) from_here in
    let given : filter_map h (map view items) ≡ filter_map h (map view (take i items)) ++ cons_option (h (view o)) rest = ap (λ l. filter_map h (map view l)) whole ∙ given_of_both view h (take i items) (o ∷ drop (suc i) items) in
    let is_first : filter_map h (map view items) ≡ x ∷ rest = given ∙ ap (λ l. l ++ cons_option (h (view o)) rest) before ∙ ap (λ y. cons_option y rest) (ap h (sym sees) ∙ sym here) in
    sym (ap (λ l. slice_get l 0) is_first)

-- If one more item gives nothing, the items up to it give nothing.
pub missed : {O E X : Type 0} (view : O → E) (h : E → Option X) (items : List O) (i : ℕ) (o : O) (seen : E) → i < length items → o ≡ get_or items i o → filter_map h (map view (take i items)) ≡ [] → seen ≡ view o → None ≡ h seen
    → filter_map h (map view (take (i + 1) items)) ≡ []
missed view h items i o seen within is before sees here =
    let more : take (suc i) items ≡ take i items ++ (o ∷ []) = take-suc items i o within ∙ ap (λ y. take i items ++ (y ∷ [])) (sym is) in
    let given : filter_map h (map view (take (suc i) items)) ≡ filter_map h (map view (take i items)) ++ cons_option (h (view o)) [] = ap (λ l. filter_map h (map view l)) more ∙ given_of_both view h (take i items) (o ∷ []) in
    ap (λ k. filter_map h (map view (take k items))) (add-one i) ∙ given ∙ ap (λ l. l ++ cons_option (h (view o)) []) before ∙ ap (λ y. cons_option y []) (ap h (sym sees) ∙ sym here)
