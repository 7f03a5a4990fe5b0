use Rattle.std.proofs.Common.{◌≡◌, List, ℕ, Ok, Err, true, arith, subst}
use Rattle.std.specs.Prelude.{string_bytes}
use Rattle.std.proofs.lemmas.Result.{err_from_is_err_and}
use Rattle.pcap_program.specs.Lines.{WritesLine}
use Rattle.pcapfile_lines.specs.Rows.{has_rows}
use Rattle.pcapfile_list.proofs.FormedItems.{line_and_rows, line_torn}
use Rattle.pcapfile_list.proofs.formed_items.write_item.Goals as goal

pub returns-in_err-put_line : goal.returns-in_err-put_line
returns-in_err-put_line g c =
    let before = g.W.Write.contents c.args.output.now in
    let after = g.W.Write.contents c.put_line.new.output in
    let exit = c.in_err-put_line.field-0.0 in
    let line = string_bytes c.in_ok-line.line in
    let writes = subst (λ (l : List ℕ). WritesLine (λ text. text ≡ l) before after (Err exit)) c.as_bytes.ensures.value c.in_err-put_line.ensures.writes in
    let p = err_from_is_err_and c.from_residual-in_err-put_line.result c.from_residual-in_err-put_line.ensures.1 in
    rw (p.1, p.2) (line_torn c.args.form c.args.number c.args.packet c.args.bytes.now line c.in_ok-line.ensures before after exit writes)

pub returns : goal.returns
returns g c =
    let before = g.W.Write.contents c.args.output.now in
    let after = g.W.Write.contents c.put_line.new.output in
    let line = string_bytes c.in_ok-line.line in
    let writes = subst (λ (l : List ℕ). WritesLine (λ text. text ≡ l) before after (Ok tt)) c.as_bytes.ensures.value c.in_ok-put_line.ensures.writes in
    let some : has_rows c.args.form ≡ true = grind (arith, c.has_rows.ensures, c.if-not-has_rows.false) in
    line_and_rows c.args.form c.args.number c.args.packet c.args.bytes.now line c.in_ok-line.ensures some before after (g.W.Write.contents c.put_rows.new.output) c.put_rows.result writes c.put_rows.ensures.writes c.put_rows.ensures.no_memory
