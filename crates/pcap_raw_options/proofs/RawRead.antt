-- A lemma for the calls that read raw options.
use Rattle.std.proofs.Common.{Result, Ok, Err, IfErr}

-- what holds in any case holds if a call fails
pub holds_on_err : {A E : Type 0} (P : Type 0) → P → (r : Result A E) → IfErr r (λ e. P)
holds_on_err P p (Ok x) = tt
holds_on_err P p (Err e) = p
