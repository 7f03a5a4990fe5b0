-- This file proves how a line is added to lines.
use Rattle.std.proofs.Common.{arith, ap, refl, sym, subst, ◌∙◌, ◌≡◌, ℕ, suc, ◌+◌, List, [], ◌∷◌, ◌++◌, length}
use Rattle.std.proofs.lemmas.List.{append-nil, append_assoc}
use Rattle.capcopy_run.specs.Lines.{AreLines}

-- One more line.
pub lines_push : {V : Type 0} (IsLine : ℕ → V → List ℕ → Type 0) (k : ℕ) (items : List V) (item : V) (lines line : List ℕ)
    → AreLines IsLine k items lines → IsLine (k + length items) item line → AreLines IsLine k (items ++ item ∷ []) (lines ++ line)
lines_push IsLine k [] item lines line are is =
    let first : k + 0 ≡ k = omega arith in
    (line, [], subst (λ n. IsLine n item line) first is, refl, ap (λ ls. ls ++ line) are ∙ sym (append-nil line))
lines_push IsLine k (other ∷ others) item lines line are is =
    let next : k + length (other ∷ others) ≡ suc k + length others = omega arith in
    let more = lines_push IsLine (suc k) others item are.1 line are.3 (subst (λ n. IsLine n item line) next is) in
    (are.0, are.1 ++ line, are.2, more, ap (λ ls. ls ++ line) are.4 ∙ append_assoc are.0 are.1 line)
