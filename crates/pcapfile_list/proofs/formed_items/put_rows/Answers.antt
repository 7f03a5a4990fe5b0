use Rattle.std.proofs.Common.{◌≡◌, ◌<◌, length, List, ℕ, Ok, Err, ◌∙◌, arith, subst}
use Rattle.std.proofs.lemmas.Result.{err_from_is_err_and}
use Rattle.pcap_program.specs.Lines.{WritesLine}
use Rattle.pcapfile_lines.specs.Rows.{row_count}
use Rattle.pcapfile_list.proofs.FormedItems.{rows_more, rows_torn}
use Rattle.pcapfile_list.proofs.formed_items.put_rows.Goals as goal

pub returns-in_err-put_line-clause-writes : goal.returns-in_err-put_line-clause-writes
returns-in_err-put_line-clause-writes g c =
    let bytes = c.args.bytes.now in
    let before = g.W.Write.contents c.loop-number.output in
    let after = g.W.Write.contents c.put_line.new.output in
    let exit = c.in_err-put_line.field-0.0 in
    let less : c.loop-number.number < row_count (length bytes) = omega (arith, c.loop-number-test.true, c.row_count-number-end.ensures) in
    let row = c.as_slice.ensures.value ∙ c.row_at-row.ensures in
    let writes = subst (λ (line : List ℕ). WritesLine (λ l. l ≡ line) before after (Err exit)) row c.in_err-put_line.ensures.writes in
    let p = err_from_is_err_and c.from_residual.result c.from_residual.ensures.1 in
    rw (p.1, p.2) (rows_torn bytes c.loop-number.number less (g.W.Write.contents c.args.output.now) before after c.loop-number.invariant exit writes c.in_err-put_line.ensures.no_memory)

pub loop-number-preserved : goal.loop-number-preserved
loop-number-preserved g c =
    let bytes = c.args.bytes.now in
    let before = g.W.Write.contents c.loop-number.output in
    let after = g.W.Write.contents c.put_line.new.output in
    let less : c.loop-number.number < row_count (length bytes) = omega (arith, c.loop-number-test.true, c.row_count-number-end.ensures) in
    let row = c.as_slice.ensures.value ∙ c.row_at-row.ensures in
    let writes = subst (λ (line : List ℕ). WritesLine (λ l. l ≡ line) before after (Ok tt)) row c.in_ok-put_line.ensures.writes in
    rows_more bytes c.loop-number.number less (g.W.Write.contents c.args.output.now) before after c.loop-number.invariant writes
