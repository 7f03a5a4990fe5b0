-- Runs of a program over a packet, from a machine to a result.
use Rattle.std.specs.Prelude.{◌≡◌, ℕ, List, ◌∷◌, drop}
use Rattle.pcap_filter.specs.declared.program.Step.{Step}
use Rattle.pcap_filter.specs.Effects.{Machine, Effect, Goes, Ends, effect}

-- Runs: a program that begins in this machine, for a packet of these bytes and this original length, ends with this result. Its
-- first step ends it, or skips some of the steps behind it, and the rest ends with this result.
pub data Runs (packet : List ℕ) (original : ℕ) : List Step → Machine → ℕ → Type 0 where
  returns : (steps behind : List Step) (step : Step) (machine : Machine) (value : ℕ) →
      steps ≡ step ∷ behind → effect step packet original machine ≡ Ends value → Runs packet original steps machine value
  goes_on : (steps behind : List Step) (step : Step) (machine next : Machine) (over value : ℕ) →
      steps ≡ step ∷ behind → effect step packet original machine ≡ Goes next over →
      Runs packet original (drop over behind) next value → Runs packet original steps machine value
