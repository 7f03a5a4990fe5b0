use Rattle.std.proofs.Common.{ℕ, List, length, refl, subst, sym}
use Rattle.pcapfile_values.specs.BlockTexts.{PutsAt}
use Rattle.pcapfile_c.specs.PutParts.{each_bytes}
use Rattle.pcapfile_values.proofs.Puts.{puts_both}
use Rattle.pcapfile_c.proofs.parts.put_list.Goals as goal

pub returns-clause-put : goal.returns-clause-put
returns-clause-put g c =
    let write = g.B.ByteOrder.bytes_of in
    let os = c.args.options.now in
    let put = puts_both (length (each_bytes write os)) refl c.put_each-mark_at.ensures.behind c.put_each-mark_at.ensures.put c.put_pair.ensures.put in
    subst (λ (text : List ℕ). PutsAt c.args.at text c.args.room.now c.put_pair.new.room) (sym (c.if-not-has_mark.ensures.marked write refl)) put
