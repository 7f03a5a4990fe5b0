use Rattle.std.proofs.Common.{◌-◌, ◌/◌, ◌++◌, ◌∷◌, [], ℕ, List, min, max}
use Rattle.pcapfile_info.specs.Spreads.{IsFine, Rows, Spreads}
use Rattle.pcapfile_info.proofs.spread.Spread.widen.Given as goal

abbrev pub invariant-loop-spread : goal.invariant-loop-spread
invariant-loop-spread l = (instants : List ℕ) → Spreads instants l.fn.self → Rows instants l.spread × IsFine (instants ++ l.instant ∷ []) l.spread.width

abbrev pub decreases-loop-spread : goal.decreases-loop-spread
decreases-loop-spread l = max l.spread.last (l.instant / l.spread.width) - min l.spread.first (l.instant / l.spread.width)
