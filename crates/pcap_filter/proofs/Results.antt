-- A program that keeps all rules has exactly one result.
use Rattle.std.proofs.Common.{◌≡◌, ◌<◌, ◌≤◌, ◌+◌, ◌-◌, ℕ, zero, suc, List, [], ◌∷◌, length, drop, refl, sym, ◌∙◌, subst, ap, arith, length-drop}
use Rattle.pcap_filter.specs.declared.program.Step.{Step}
use Rattle.pcap_filter.specs.Effects.{Machine, Effect, Goes, Ends, effect, start}
use Rattle.pcap_filter.specs.Programs.{AllFine, IsProgram}
use Rattle.pcap_filter.specs.Results.{result_behind, result_of}
use Rattle.pcap_filter.specs.Runs.{Runs, returns, goes_on}
use Rattle.pcap_filter.proofs.Inside.{PassesBelow, acts_inside}
use Rattle.pcap_filter.proofs.Valid.{fine_rest}

module _ (packet : List ℕ) (original : ℕ) where
  result_dropped : (steps : List Step) (over : ℕ) (machine : Machine) → result_behind packet original steps over machine ≡ result_behind packet original (drop over steps) 0 machine
  unfolding result_behind
  result_dropped [] zero machine = refl
  result_dropped [] (suc over) machine = refl
  result_dropped (step ∷ steps) zero machine = refl
  result_dropped (step ∷ steps) (suc over) machine = result_dropped steps over machine

  -- The result of a program after an effect.
  abbrev after : List Step → Effect → ℕ
  after behind (Ends value) = value
  after behind (Goes next over) = result_behind packet original behind over next

  result_step : (step : Step) (behind : List Step) (machine : Machine) (e : Effect) → effect step packet original machine ≡ e →
      result_behind packet original (step ∷ behind) 0 machine ≡ after behind e
  unfolding result_behind
  result_step step behind machine e is = ap (after behind) is

  result_here : (steps behind : List Step) (step : Step) (machine : Machine) (e : Effect) → steps ≡ step ∷ behind → effect step packet original machine ≡ e →
      result_behind packet original steps 0 machine ≡ after behind e
  result_here steps behind step machine e parts is = ap (λ l. result_behind packet original l 0 machine) parts ∙ result_step step behind machine e is

  -- A run ends with the result.
  pub runs_to : (steps : List Step) (machine : Machine) (value : ℕ) → Runs packet original steps machine value → result_behind packet original steps 0 machine ≡ value
  runs_to steps machine value (returns _ behind step _ _ parts ends) = result_here steps behind step machine (Ends value) parts ends
  runs_to steps machine value (goes_on _ behind step _ next over _ parts goes run) =
      result_here steps behind step machine (Goes next over) parts goes ∙ (result_dropped behind over next ∙ runs_to (drop over behind) next value run)

  -- A program that keeps all rules has a run.
  pub has_run : (most : ℕ) (steps : List Step) (machine : Machine) → AllFine steps → 0 < length steps → length steps ≤ most → (value : ℕ) × Runs packet original steps machine value
  has_run zero steps machine fine some few = absurd (omega (arith, some, few))
  has_run (suc most) [] machine fine some few = absurd (omega (arith, some))
  has_run (suc most) (step ∷ behind) machine fine some few =
      (elim (effect step packet original machine) as (λ e. effect step packet original machine ≡ e → (value : ℕ) × Runs packet original (step ∷ behind) machine value) [
        | Ends value ↦ λ is. (value, returns (step ∷ behind) behind step machine value refl is)
        | Goes next over ↦ λ is.
            let below = subst (λ e. PassesBelow e (length behind)) is (acts_inside step.operation step packet original machine (length behind) fine.0.1) in
            let left : length (drop over behind) ≡ length behind - over = length-drop over behind in
            let run = has_run most (drop over behind) next (fine_rest over behind fine.1) (omega (arith, left, below)) (omega (arith, left, few)) in
            (run.0, goes_on (step ∷ behind) behind step machine next over run.0 refl is run.1)
      ]) refl

pub run_gives : (packet : List ℕ) (original : ℕ) (steps : List Step) (value : ℕ) → Runs packet original steps start value → value ≡ result_of steps packet original
unfolding result_of
run_gives packet original steps value run = sym (runs_to packet original steps start value run)

-- A program that keeps all rules ends with its result.
pub runs_to_result : (packet : List ℕ) (original : ℕ) (steps : List Step) → IsProgram steps → Runs packet original steps start (result_of steps packet original)
runs_to_result packet original steps valid =
    let run = has_run packet original (length steps) steps start valid.fine valid.some (omega arith) in
    subst (λ value. Runs packet original steps start value) (run_gives packet original steps run.0 run.1) run.1
