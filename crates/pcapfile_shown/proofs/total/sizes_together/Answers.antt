use Rattle.std.proofs.Common.{◌∙◌, arith, refl}
use Rattle.std.proofs.lemmas.List.{length-set}
use Rattle.pcapfile_shown.proofs.Sums.{sums_more}
use Rattle.pcapfile_shown.proofs.total.sizes_together.Goals as goal

pub loop-class-preserved : goal.loop-class-preserved
loop-class-preserved c =
    let at = c.loop-class in (
      length-set at.sizes at.class c.saturating_add.result ∙ at.invariant.0,
      sums_more c.args.one.now c.args.other.now at.sizes _ at.class c.saturating_add.result c.loop-class-test.true at.invariant.0 refl c.saturating_add.ensures at.invariant.1,
    )

pub returns : goal.returns
returns c = λ class less. c.loop-class.invariant.1 class (omega (arith, less, c.loop-class-test.false, c.loop-class.auto.class-end))
