use Rattle.std.proofs.Common.{◌∙◌, ℕ, List, inr, refl, subst}
use Rattle.pcapfile_merge.specs.Holding.{TakesNext}
use Rattle.pcapfile_merge.proofs.Given.{advanced_numbered}
use Rattle.pcapfile_merge.proofs.source.Source.advance_numbered.Goals as goal

pub advance_any-requires-clause-ready : goal.advance_any-requires-clause-ready
advance_any-requires-clause-ready g c = rw c.requires.holds.1 at c.args.self.now.ready

pub returns-in-Err : goal.returns-in-Err
returns-in-Err g c = inr (record {
  interface = c.requires.interface;
  base = refl;
  numbers = c.in-Err.ensures.stays;
  reader = refl;
  left_out = refl;
  ended = refl;
  fault = c.in-Err.ensures.pushes;
})

pub returns-in-Ok : goal.returns-in-Ok
returns-in-Ok g c =
    let old = c.args.self.now in
    let new = c.advance_any.new.self in
    let advances = c.advance_any.ensures in
    let pushed = c.in-Ok.ensures.pushes in
    advanced_numbered g.R.Read.remaining c.args.number old new c.requires.interface
    (advances.0, advances.1 ∙ pushed, subst (λ (l : List ℕ). TakesNext g.R.Read.remaining old.base l old.reader new.reader new.taken) pushed advances.2, advances.3)
