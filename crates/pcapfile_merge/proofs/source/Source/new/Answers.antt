use Rattle.std.proofs.Common.{◌∙◌, ℕ, List, subst}
use Rattle.pcapfile_merge.specs.Holding.{TakesNext}
use Rattle.pcapfile_merge.proofs.Given.{gave_first, left_out_held}
use Rattle.pcapfile_merge.proofs.source.Source.new.Goals as goal

pub returns-clause-gave : goal.returns-clause-gave
returns-clause-gave g c =
    let new = c.take_next-taken.new.self in
    let taken = c.take_next-taken.result in
    let takes = subst (λ (l : List ℕ). TakesNext g.R.Read.remaining c.args.base l c.args.reader new taken) c.as_slice.ensures.value c.take_next-taken.ensures.takes in
    (gave_first g.R.Read.remaining c.args.base c.new-numbers.result.items c.args.reader new taken c.requires takes, c.left_out_next-left_out.ensures ∙ left_out_held new taken.next 0)
