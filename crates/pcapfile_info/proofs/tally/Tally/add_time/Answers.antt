use Rattle.std.proofs.Common.{◌++◌, ◌∷◌, [], ℕ, subst}
use Rattle.pcapfile_info.specs.Tallies.{IsSpread}
use Rattle.pcapfile_info.proofs.tally.Tally.add_time.Goals as goal

pub returns-clause-spread : goal.returns-clause-spread
returns-clause-spread c =
    rw c.in-Some.is (λ instants before. subst (λ (n : ℕ). IsSpread (instants ++ n ∷ []) c.add_instant.new.spread) c.instant_of.ensures (c.add_instant.ensures instants before))
