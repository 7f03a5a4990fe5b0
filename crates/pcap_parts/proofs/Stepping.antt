-- Proofs about cuts that are at least n bytes apart.
use Rattle.std.proofs.Common.{◌≡◌, ◌<◌, ◌≤◌, ◌+◌, ◌*◌, ◌⊎◌, ℕ, List, [], ◌∷◌, ◌++◌, length, arith, inl, inr}
use Rattle.std.specs.List.{AllByRecursion}
use Rattle.std.proofs.Math.Nat.{mul-le-mul_right, suc-mul}
use Rattle.std.proofs.lemmas.Bool.{cases_lt}
use Rattle.pcap_items.specs.Format.{Format}
use Rattle.pcap_parts.specs.declared.cut.Cut.{Cut}
use Rattle.pcap_parts.specs.Parts.{AreSteps, Bound, FirstBound}

module _ {S V : Type 0} (f : Format S V) (q : S) (s : List ℕ) (total n : ℕ) where
  -- StandsBefore: the cut has these bytes behind it.
  abbrev pub StandsBefore : List ℕ → Cut → Type 0
  StandsBefore left cut = cut.offset + length left ≡ total

  -- One more cut may follow the last one.
  pub step_push : (Ends Now : Cut → Type 0) (cuts : List Cut) (x : Cut) → AreSteps f q s total n Ends cuts → ((c : Cut) → Ends c → FirstBound f q s total (c.offset + n) x × (x.offset < total)) → Now x
      → AreSteps f q s total n Now (cuts ++ x ∷ [])
  step_push Ends Now [] x steps follows now = absurd steps
  step_push Ends Now (c ∷ []) x steps follows now = let here = follows c steps in (here.0, here.1, now)
  step_push Ends Now (c ∷ d ∷ cs) x steps follows now = (steps.0, steps.1, step_push Ends Now (d ∷ cs) x steps.2 follows now)

  -- The property of the last cut may be replaced by one that follows from it.
  pub step_ends : (Ends Now : Cut → Type 0) (cuts : List Cut) → AreSteps f q s total n Ends cuts → ((c : Cut) → Ends c → Now c) → AreSteps f q s total n Now cuts
  step_ends Ends Now [] steps now = absurd steps
  step_ends Ends Now (c ∷ []) steps now = now c steps
  step_ends Ends Now (c ∷ d ∷ cs) steps now = (steps.0, steps.1, step_ends Ends Now (d ∷ cs) steps.2 now)

-- The number of cuts that are n bytes apart is limited by the number of bytes.
module _ {S V : Type 0} (f : Format S V) (q : S) (s : List ℕ) (total n : ℕ) (Ends : Cut → Type 0) where
  steps_far : (c : Cut) (cs : List Cut) → AreSteps f q s total n Ends (c ∷ cs) → AllByRecursion (Bound f q s total) (c ∷ cs) → c.offset + length cs * n ≤ total
  steps_far c [] steps bounds = omega (arith, bounds.0.place)
  steps_far c (d ∷ cs) steps bounds = omega (arith, steps.0.behind, steps_far d cs steps.2 bounds.1, suc-mul (length cs) n)

  pub steps_fit : (cuts : List Cut) (places : ℕ) → AreSteps f q s total n Ends cuts → AllByRecursion (Bound f q s total) cuts → total < places * n → length cuts ≤ places
  steps_fit [] places steps bounds room = omega arith
  steps_fit (c ∷ cs) places steps bounds room = fit_by (cases_lt (length cs) places)
    where
      fit_by : (length cs < places) ⊎ (places ≤ length cs) → length (c ∷ cs) ≤ places
      fit_by (inl less) = omega (arith, less)
      fit_by (inr more) = absurd (omega (arith, room, steps_far c cs steps bounds, mul-le-mul_right {m = places} {n = length cs} n more))
