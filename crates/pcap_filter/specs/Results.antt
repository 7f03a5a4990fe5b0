-- The result that a program returns for a packet.
use Rattle.std.specs.Prelude.{ℕ, zero, suc, List, [], ◌∷◌}
use Rattle.pcap_filter.specs.declared.program.Step.{Step}
use Rattle.pcap_filter.specs.Effects.{Machine, Effect, Goes, Ends, effect, start}

-- The result of these steps behind the next `over` ones, which are skipped; a program that keeps all rules never ends without one.
unfoldable pub result_behind : List ℕ → ℕ → List Step → ℕ → Machine → ℕ
result_behind packet original [] over machine = 0
result_behind packet original (step ∷ steps) (suc over) machine = result_behind packet original steps over machine
result_behind packet original (step ∷ steps) zero machine = elim (effect step packet original machine) [
  | Ends value ↦ value
  | Goes next over ↦ result_behind packet original steps over next
]

-- The number of bytes that a program accepts of a packet with these bytes and this original length.
unfoldable pub result_of : List Step → List ℕ → ℕ → ℕ
result_of steps packet original = result_behind packet original steps 0 start
