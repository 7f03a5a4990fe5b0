-- A body that begins with numbers has exactly one reading, if the part after the numbers has exactly one.
use Rattle.std.proofs.Common.{◌≡◌, ℕ, ◌<◌, List, length, sym, subst, inl, inr}
use Rattle.std.specs.Prelude.{◌⊎◌}
use Rattle.pcap_core.specs.Answer.{Order, Verdict, whole, lacks, faulty, Says, Made}
use Rattle.pcap_core.specs.Faults.{Fault}
use Rattle.pcap_core.specs.Laws.{ExactlyOne}
use Rattle.pcap_core.specs.Padded.{Behind}
use Rattle.pcap_core.proofs.Verdicts.{one_moved, Then, one_then, one_made}
use Rattle.pcap_core.proofs.Numbers.{Values, Numbers, NumbersSay, total, numbers_one, numbers_behind, numbers_at}

-- The verdict on a body is that of its numbers and of the part that follows them.
pub record IsNumbersThen {V W : Type 0} (order : Order) (too_short : Fault) (widths : List ℕ) (make : Values widths → V → W) (Next : List ℕ → Verdict V → Type 0) (Text : W → List ℕ → List ℕ → Type 0) (HasFault : List ℕ → Fault → Type 0)
    : Type 0 where
  pub text_to : (w : W) (s rest : List ℕ) → Text w s rest → (ns : Values widths) × (after : List ℕ) × Numbers order widths ns s after × (v : V) × (w ≡ make ns v) × Next after (whole v rest)
  pub text_from : (ns : Values widths) (v : V) (s after rest : List ℕ) → Numbers order widths ns s after → Next after (whole v rest) → Text (make ns v) s rest
  pub fault_to : (fault : Fault) (s : List ℕ) → HasFault s fault → ((fault ≡ too_short) × (length s < total widths)) ⊎ ((after : List ℕ) × Behind (total widths) s after × Next after (faulty fault))
  pub short_from : (s : List ℕ) → length s < total widths → HasFault s too_short
  pub fault_from : (fault : Fault) (s after : List ℕ) → Behind (total widths) s after → Next after (faulty fault) → HasFault s fault
  pub no_lack : (s : List ℕ) (n : ℕ) → Next s (lacks n) → ⊥

module _ {V W : Type 0} (order : Order) (too_short : Fault) (widths : List ℕ) (make : Values widths → V → W) (Next : List ℕ → Verdict V → Type 0) (Text : W → List ℕ → List ℕ → Type 0) (HasFault : List ℕ → Fault → Type 0)
    (is : IsNumbersThen order too_short widths make Next Text HasFault) where
  BodyThen : List ℕ → Verdict W → Type 0
  BodyThen s = Then (NumbersSay order too_short widths s) (λ ns after. Made (make ns) (Next after))

  BodySays : List ℕ → Verdict W → Type 0
  BodySays s = Says (λ w rest. Text w s rest) (λ n. ⊥) (HasFault s)

  body_to : (s : List ℕ) (w : Verdict W) → BodySays s w → BodyThen s w
  unfolding BodyThen BodySays
  body_to s (whole w rest) h = let t = is.text_to w s rest h in (t.0, t.1, t.2, (t.3, t.4, t.5))
  body_to s (lacks n) h = absurd h
  body_to s (faulty fault) h =
      elim (is.fault_to fault s h) [
        | inl short ↦ inl short
        | inr after ↦ let t = numbers_at order widths s after.0 after.1 in inr (t.0, after.0, t.1, after.2)
      ]

  body_from : (s : List ℕ) (w : Verdict W) → BodyThen s w → BodySays s w
  unfolding BodyThen BodySays
  body_from s (whole w rest) t = subst (λ (x : W). Text x s rest) (sym t.3.1) (is.text_from t.0 t.3.0 s t.1 rest t.2 t.3.2)
  body_from s (lacks n) (inl t) = t
  body_from s (lacks n) (inr t) = is.no_lack t.1 n t.3
  body_from s (faulty fault) (inl t) = rw t.0 (is.short_from s t.1)
  body_from s (faulty fault) (inr t) = is.fault_from fault s t.1 (numbers_behind order widths t.0 s t.1 t.2) t.3

  pub numbers_then_one : ((s : List ℕ) → ExactlyOne (Next s)) → (s : List ℕ) → ExactlyOne (Says (λ w rest. Text w s rest) (λ n. ⊥) (HasFault s))
  unfolding BodyThen BodySays
  numbers_then_one one s =
      one_moved (BodySays s) (BodyThen s) (body_to s) (body_from s)
      (one_then (NumbersSay order too_short widths s) (λ ns after. Made (make ns) (Next after)) (numbers_one order too_short widths s) (λ ns after k. one_made (make ns) (Next after) (one after)))
