use Rattle.std.proofs.Common.{◌∙◌, subst, sym}
use Rattle.std.proofs.KnownBytes.{Keeps-refl}
use Rattle.pcapfile_sort.specs.declared.sorting.Sorted.{Sorted}
use Rattle.pcapfile_sort.specs.Sorting.{Sorts}
use Rattle.pcapfile_sort.proofs.SortedCaptures.{sorts_end, sorts_most, sorts_refused, sorts_unkept, unkept_part}
use Rattle.pcapfile_sort.proofs.sorting.end_sort.Goals as goal

pub returns-in-AtEnd-clause-sorts : goal.returns-in-AtEnd-clause-sorts
returns-in-AtEnd-clause-sorts g c = λ capture pass.
    sorts_end g.C.Records.format (g.C.Records.opening c.args.records.now) capture c.args.read_failed c.args.entries.now c.requires.lawful (rw c.in-AtEnd.is at pass)
    (g.S.ReadAgain.bytes c.args.again.now) (g.S.ReadAgain.has_failed c.write_in_order.new.again) (g.W.Write.contents c.args.output.now) (g.W.Write.contents c.write_in_order.new.output) c.write_in_order.result c.write_in_order.ensures

pub returns-in-AtMost-clause-sorts : goal.returns-in-AtMost-clause-sorts
returns-in-AtMost-clause-sorts g c = λ capture pass. (sorts_most g.C.Records.format (g.C.Records.opening c.args.records.now) capture c.args.read_failed c.args.entries.now (rw c.in-AtMost.is at pass), Keeps-refl _)

pub returns-in-Stopped-clause-sorts : goal.returns-in-Stopped-clause-sorts
returns-in-Stopped-clause-sorts g c = λ capture pass.
    let out = g.W.Write.contents c.args.output.now in
    let again = g.S.ReadAgain.bytes c.args.again.now in
    let failed = g.S.ReadAgain.has_failed c.args.again.now in
    let stops = sorts_unkept g.C.Records.format (g.C.Records.opening c.args.records.now) capture c.args.read_failed c.args.entries.now c.in-Stopped.stop (rw c.in-Stopped.is at pass) again out failed in
    subst (λ (sorted : Sorted). Sorts g.C.Records.format capture again out out failed sorted) (sym c.unkept.ensures) stops

pub returns-in-Stopped-clause-whole : goal.returns-in-Stopped-clause-whole
returns-in-Stopped-clause-whole g c = λ whole. absurd (unkept_part c.in-Stopped.stop (sym c.unkept.ensures ∙ whole))

pub returns-in-Refused-clause-sorts : goal.returns-in-Refused-clause-sorts
returns-in-Refused-clause-sorts g c = λ capture pass.
    (sorts_refused g.C.Records.format (g.C.Records.opening c.args.records.now) capture c.args.read_failed c.args.entries.now c.in-Refused.error (rw c.in-Refused.is at pass), Keeps-refl _)
