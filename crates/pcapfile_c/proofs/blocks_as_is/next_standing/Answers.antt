use Rattle.std.proofs.lemmas.Result.{err_from_is_err_and}
use Rattle.std.proofs.Common.{sym, ◌∙◌}
use Rattle.pcap_ng.specs.Frames.{framed_of, FrameText}
use Rattle.pcap_tolerant_captures.specs.State.{order_at}
use Rattle.pcapfile_c.proofs.Standing.{order_stands, frame_refused, standing_refused}
use Rattle.pcapfile_c.proofs.blocks_as_is.next_standing.Goals as goal

pub returns-in_err-rest-clause-said : goal.returns-in_err-rest-clause-said
returns-in_err-rest-clause-said c q shows =
    let s = c.args.slice.now in
    let holds = order_stands c.args.section.now q c.in-Some.order shows (sym c.order.ensures ∙ c.in-Some.is) in
    let p = err_from_is_err_and c.from_residual.result c.from_residual.ensures.1 in
    rw (p.1, p.2) (frame_refused q s c.in_err-rest.field-0.0 (rw holds c.in_err-rest.ensures.tells))

pub returns-in_err-found-clause-said : goal.returns-in_err-found-clause-said
returns-in_err-found-clause-said c q shows =
    let s = c.args.slice.now in
    let b = framed_of c.in_ok-rest.block in
    let holds = order_stands c.args.section.now q c.in-Some.order shows (sym c.order.ensures ∙ c.in-Some.is) in
    let p = err_from_is_err_and c.from_residual-in_err-found.result c.from_residual-in_err-found.ensures.1 in
    let frame : FrameText (order_at q) b s c.in_ok-rest.rest.now = rw holds c.in_ok-rest.ensures.tells in
    rw (p.1, p.2) (standing_refused q s b c.in_ok-rest.rest.now frame c.in_err-found.field-0.0 (c.in_err-found.ensures q shows))

pub returns-clause-said : goal.returns-clause-said
returns-clause-said c q shows =
    let b = framed_of c.in_ok-rest.block in
    let holds = order_stands c.args.section.now q c.in-Some.order shows (sym c.order.ensures ∙ c.in-Some.is) in
    let led = c.in_ok-found.ensures q shows in
    (record { block = b; led = led.0 }, led.2, led.3, record { frame = rw holds c.in_ok-rest.ensures.tells; means = led.1 })
