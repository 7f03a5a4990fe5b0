use Rattle.std.proofs.lemmas.Result.{err_from_is_err_and}
use Rattle.pcap_items.specs.Held.{held_bytes}
use Rattle.pcap_tolerant_captures.specs.HeldAsIs.{state_in}
use Rattle.pcap_tolerant_captures.specs.State.{led_to}
use Rattle.pcap_tolerant_captures.proofs.Format.{as_is_lawful}
use Rattle.pcap_tolerant_captures.proofs.HeldBlocks.{held_cause, held_said}
use Rattle.pcap_tolerant_captures.proofs.reader.hold.Goals as goal

pub fill_item-requires-clause-lawful : goal.fill_item-requires-clause-lawful
fill_item-requires-clause-lawful g c = as_is_lawful

pub returns-in_err-block-clause-pulls : goal.returns-in_err-block-clause-pulls
returns-in_err-block-clause-pulls g c =
    let p = err_from_is_err_and c.from_residual-in_err-block.result c.from_residual-in_err-block.ensures.1 in
    let filled = rw c.in-Some.is at c.in_ok-_head.ensures.fills in
    let told = rw c.as_slice.ensures at c.in_err-block.ensures in
    rw (p.1, p.2) (held_cause (state_in c.args.parser.now) (held_bytes c.fill_item.new.held) _ _ _ filled.0 filled.4 filled.3 filled.2 c.in_err-block.field-0.0 told.1)

pub returns-clause-text : goal.returns-clause-text
returns-clause-text g c =
    let filled = rw c.in-Some.is at c.in_ok-_head.ensures.fills in
    let told = rw c.as_slice.ensures at c.in_ok-block.ensures in
    let lent = c.in_ok-block.block in
    (held_said (state_in c.args.parser.now) (held_bytes c.fill_item.new.held) told.0 (led_to (state_in c.follow.new.parser) lent.flaws.items) told.1 lent.header filled.2 told.2 told.3, filled.4)

pub returns-clause-pulls : goal.returns-clause-pulls
returns-clause-pulls g c =
    let filled = rw c.in-Some.is at c.in_ok-_head.ensures.fills in
    let text = returns-clause-text g c in
    (filled.0, (held_bytes c.fill_item.new.held, text.0, text.1))
