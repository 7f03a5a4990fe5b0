use Rattle.std.proofs.Common.{[], refl}
use Rattle.std.proofs.lemmas.Result.{err_from_is_err_and}
use Rattle.pcap_items.specs.Held.{held_bytes}
use Rattle.pcap_tolerant_captures.specs.HeldAsIs.{state_in}
use Rattle.pcap_tolerant_captures.proofs.Format.{as_is_lawful}
use Rattle.pcap_tolerant_captures.proofs.HeldBlocks.{held_cause, held_said}
use Rattle.pcap_tolerant_captures.proofs.Outlines.{err_holds, may_grow}
use Rattle.pcap_tolerant_captures.proofs.reader.hold_outline.Goals as goal

pub fill_item-requires-clause-lawful : goal.fill_item-requires-clause-lawful
fill_item-requires-clause-lawful g c = as_is_lawful

pub returns-in_err-_head : goal.returns-in_err-_head
returns-in_err-_head g c =
    let p = err_from_is_err_and c.from_residual.result c.from_residual.ensures.1 in
    let q = state_in c.args.parser.now in
    rw (p.1, p.2) (err_holds q q _ _ _ (held_bytes c.fill_item.new.held) c.in_err-_head.field-0.0 refl c.in_err-_head.ensures.fills)

pub returns-in_default : goal.returns-in_default
returns-in_default g c =
    let filled = rw c.in_default.is at c.in_ok-_head.ensures.fills in
    record { led = record { flaws = []; after = state_in c.args.parser.now }; leads = refl; pulls = (filled.0, filled.2, filled.3); text = filled.1 }

pub returns-in_err-header : goal.returns-in_err-header
returns-in_err-header g c =
    let p = err_from_is_err_and c.from_residual-in_err-header.result c.from_residual-in_err-header.ensures.1 in
    let filled = rw c.in-Some.is at c.in_ok-_head.ensures.fills in
    let told = rw c.as_slice.ensures at c.in_err-header.ensures in
    let q = state_in c.args.parser.now in
    let held = held_bytes c.fill_item.new.held in
    let e = c.in_err-header.field-0.0 in
    rw (p.1, p.2) (err_holds q (state_in c.outline.new.parser) _ _ _ held e told.0 (held_cause q held _ _ _ filled.0 filled.4 filled.3 filled.2 e (may_grow q held e told.1)))

pub returns : goal.returns
returns g c =
    let filled = rw c.in-Some.is at c.in_ok-_head.ensures.fills in
    let told = rw c.as_slice.ensures at c.in_ok-header.ensures in
    let held = held_bytes c.fill_item.new.held in
    let said = held_said (state_in c.args.parser.now) held told.0 told.1 told.2 c.in_ok-header.header filled.2 told.3 told.4 in
    record { led = told.1; leads = told.5; pulls = (filled.0, (held, said, filled.4)); text = (said, filled.4) }
