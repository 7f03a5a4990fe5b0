use Rattle.std.proofs.Common.{◌==◌, ◌∙◌, ap, length, sym}
use Rattle.std.proofs.lemmas.Bool.{true≢false}
use Rattle.pcapfile_sort.proofs.BlockRanks.{frame_stands, rest_none}
use Rattle.pcapfile_sort.proofs.blocks.is_block_in.Goals as goal

pub returns-in-Ok-clause-no : goal.returns-in-Ok-clause-no
returns-in-Ok-clause-no c = λ is has.
    let none = rest_none c.args.order c.args.text.now c.in-Ok.rest.now _ c.in-Ok.ensures.tells has in
    true≢false (sym (c.is_empty.ensures ∙ ap (λ rest. length rest == 0) none) ∙ is)

pub returns-clause-no : goal.returns-clause-no
returns-clause-no c = λ is has. frame_stands c.args.order c.args.text.now has.0 has.1 c.in-Err.field-0 c.in-Err.ensures.tells
