use Rattle.std.proofs.Common.{Err, refl, ap}
use Rattle.std.proofs.lemmas.Result.{err_from_is_err_and}
use Rattle.pcap_ng.specs.Lent.{framed_around}
use Rattle.pcap_tolerant_captures.specs.Blocks.{Item}
use Rattle.pcapfile_as_is.specs.BlockLines.{block_lines, block_place, said_lines}
use Rattle.pcapfile_as_is.specs.Counts.{is_flawed}
use Rattle.pcapfile_as_is.specs.Texts.{numbered}
use Rattle.pcapfile_as_is.proofs.Tellings.{tells_by}
use Rattle.pcapfile_as_is.proofs.block_flaws.put_block.Goals as goal

pub returns-in_err-has_flaw : goal.returns-in_err-has_flaw
returns-in_err-has_flaw g c = λ q led s text.
    let p = err_from_is_err_and c.from_residual.result c.from_residual.ensures.1 in
    let item : Item = record { block = framed_around c.args.header c.args.body.now; led = led } in
    let told = numbered (is_flawed item) in
    let wrote = c.in_err-has_flaw.ensures q led s text in
    rw (p.1, p.2) (told, tells_by is_flawed (block_lines c.args.prefix.now) c.args.at.number c.args.at.place item told _ _ (Err c.in_err-has_flaw.field-0.0) refl wrote)

pub returns : goal.returns
returns g c = λ q led s text.
    let wrote = c.in_ok-has_flaw.ensures q led s text in
    (said_lines (block_place c.args.prefix.now c.args.at.number c.args.at.place) led.flaws, (ap numbered wrote.0, refl), wrote.1)
