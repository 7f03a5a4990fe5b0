use Rattle.std.proofs.lemmas.Result.{err_from_is_err_and}
use Rattle.std.proofs.Common.{sym, ◌∙◌}
use Rattle.pcap_ng.specs.Frames.{framed_of, FrameText}
use Rattle.pcap_ng.specs.State.{order_at}
use Rattle.pcap_ng.specs.Blocks.{MayGrow}
use Rattle.pcap_ng.proofs.Refusing.{frame_refuses, body_refuses}
use Rattle.pcap_ng.proofs.Stretched.{text_within}
use Rattle.pcapfile_values.proofs.Leading.{order_holds}
use Rattle.pcapfile_values.proofs.blocks.PcapfileSection.next_block.Goals as goal

pub returns-in_err-rest-clause-said : goal.returns-in_err-rest-clause-said
returns-in_err-rest-clause-said c q shows =
    let s = c.args.slice.now in
    let holds = order_holds c.args.self.now q c.in-Some.order shows (sym c.order.ensures ∙ c.in-Some.is) in
    let p = err_from_is_err_and c.from_residual.result c.from_residual.ensures.1 in
    rw (p.1, p.2) (frame_refuses q s (MayGrow q s) c.in_err-rest.field-0.0 (rw holds c.in_err-rest.ensures.tells))

pub returns-in_err-next-clause-said : goal.returns-in_err-next-clause-said
returns-in_err-next-clause-said c q shows =
    let s = c.args.slice.now in
    let b = framed_of c.in_ok-rest.block in
    let holds = order_holds c.args.self.now q c.in-Some.order shows (sym c.order.ensures ∙ c.in-Some.is) in
    let p = err_from_is_err_and c.from_residual-in_err-next.result c.from_residual-in_err-next.ensures.1 in
    let frame : FrameText (order_at q) b s c.in_ok-rest.rest.now = rw holds c.in_ok-rest.ensures.tells in
    rw (p.1, p.2) (body_refuses q s b c.in_ok-rest.rest.now frame c.in_err-next.field-0.0 (c.in_err-next.ensures q shows))

pub returns-clause-said : goal.returns-clause-said
returns-clause-said c q shows =
    let b = framed_of c.in_ok-rest.block in
    let holds = order_holds c.args.self.now q c.in-Some.order shows (sym c.order.ensures ∙ c.in-Some.is) in
    let led = c.in_ok-next.ensures q shows in
    (record { block = b; after = led.0 }, c.new.ensures, led.1, record { frame = rw holds c.in_ok-rest.ensures.tells; means = led.2 })

pub returns-clause-shorter : goal.returns-clause-shorter
returns-clause-shorter c = text_within c.in-Some.order (framed_of c.in_ok-rest.block) c.args.slice.now c.in_ok-rest.rest.now c.in_ok-rest.ensures.tells
