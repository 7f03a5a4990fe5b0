use Rattle.std.proofs.Common.{◌≡◌}
use Rattle.std.proofs.lemmas.Result.{err_from_is_err_and}
use Rattle.pcap_items.specs.Held.{held_bytes}
use Rattle.pcap_items.proofs.Filled.{held_refused}
use Rattle.pcap_ng.specs.Frames.{framed_of, frame_format}
use Rattle.pcap_ng.specs.Lent.{framed_around, body_in}
use Rattle.pcap_ng.specs.State.{state_in, CanGrow}
use Rattle.pcap_ng.proofs.HeadedFrames.{frames_lawful}
use Rattle.pcap_ng.proofs.Causes.{pull_frame, pull_held, body_refused, pull_item}
use Rattle.pcap_ng.proofs.Lent.{held_block}
use Rattle.pcap_ng.proofs.pcapng.taking.hold.Goals as goal

pub fill_item-requires-clause-lawful : goal.fill_item-requires-clause-lawful
fill_item-requires-clause-lawful g c = frames_lawful

pub returns-in_err-head-clause-pulls : goal.returns-in_err-head-clause-pulls
returns-in_err-head-clause-pulls g c =
    let p = err_from_is_err_and c.from_residual.result c.from_residual.ensures.1 in
    rw (p.1, p.2) (pull_frame (state_in c.args.in_force.now) c.order-order.result c.order-order.ensures _ _ _ c.in_err-head.field-0.0 c.in_err-head.ensures.fills)

pub returns-in_err-block-clause-pulls : goal.returns-in_err-block-clause-pulls
returns-in_err-block-clause-pulls g c =
    let p = err_from_is_err_and c.from_residual-in_err-block.result c.from_residual-in_err-block.ensures.1 in
    let filled = rw c.in-Some.is at c.in_ok-head.ensures.fills in
    let shown = rw c.as_slice.ensures at c.in_err-block.ensures in
    let e = c.in_err-block.field-0.0 in
    let x = held_refused frame_format frames_lawful c.order-order.result e (held_bytes c.fill_item.new.held) _ _ _ (record { came = filled.4; asked = filled.3 }) filled.0 shown in
    rw (p.1, p.2) (pull_frame (state_in c.args.in_force.now) c.order-order.result c.order-order.ensures _ _ _ e x)

pub returns-in_err-follow-clause-pulls : goal.returns-in_err-follow-clause-pulls
returns-in_err-follow-clause-pulls g c =
    let q = state_in c.args.in_force.now in
    let b = framed_of c.in_ok-block.block in
    let held = held_bytes c.fill_item.new.held in
    let p = err_from_is_err_and c.from_residual-in_err-follow.result c.from_residual-in_err-follow.ensures.1 in
    let filled = rw c.in-Some.is at c.in_ok-head.ensures.fills in
    let text = rw c.as_slice.ensures at c.in_ok-block.ensures in
    let e = c.in_err-follow.field-0.0 in
    let x = body_refused q c.order-order.result c.order-order.ensures b held text (CanGrow q b) e c.in_err-follow.ensures.1 in
    rw (p.1, p.2) (pull_held q c.order-order.result c.order-order.ensures held _ _ _ filled.0 filled.4 filled.3 (CanGrow q b) e x)

pub returns-clause-text : goal.returns-clause-text
returns-clause-text g c =
    let q = state_in c.args.in_force.now in
    let order = c.order-order.result in
    let held = held_bytes c.fill_item.new.held in
    let b = framed_of c.in_ok-block.block in
    let filled = rw c.in-Some.is at c.in_ok-head.ensures.fills in
    let text = rw c.as_slice.ensures at c.in_ok-block.ensures in
    let lent = framed_around c.of-header.result (body_in held) in
    let same : lent ≡ b = rw c.of-header.ensures (held_block order b held text) in
    let item = pull_item q order c.order-order.ensures b held text lent (state_in c.follow.new.self) same c.in_ok-follow.ensures in
    (item, filled.4)

pub returns-clause-pulls : goal.returns-clause-pulls
returns-clause-pulls g c =
    let filled = rw c.in-Some.is at c.in_ok-head.ensures.fills in
    let text = returns-clause-text g c in
    (filled.0, (held_bytes c.fill_item.new.held, text.0, text.1))
