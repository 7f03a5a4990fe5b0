use Rattle.std.proofs.lemmas.Result.{err_from_is_err_and}
use Rattle.pcap_ng.specs.Frames.{framed_of, FrameText}
use Rattle.pcap_ng.specs.State.{order_at}
use Rattle.pcap_ng.specs.Blocks.{MayGrow}
use Rattle.pcap_ng.specs.Parser.{state_of}
use Rattle.pcap_ng.proofs.Refusing.{frame_refuses, body_refuses}
use Rattle.pcap_ng.proofs.pcapng.parser.PcapNgParser.next_block.Goals as goal

pub returns-in_err-rest-clause-tells : goal.returns-in_err-rest-clause-tells
returns-in_err-rest-clause-tells c =
    let q = state_of c.args.self.now in
    let s = c.args.slice.now in
    let p = err_from_is_err_and c.from_residual.result c.from_residual.ensures.1 in
    rw (p.1, p.2) (frame_refuses q s (MayGrow q s) c.in_err-rest.field-0.0 (rw (← c.order.ensures) c.in_err-rest.ensures.tells))

pub returns-in_err-follow-clause-tells : goal.returns-in_err-follow-clause-tells
returns-in_err-follow-clause-tells c =
    let q = state_of c.args.self.now in
    let s = c.args.slice.now in
    let b = framed_of c.in_ok-rest.block in
    let p = err_from_is_err_and c.from_residual-in_err-follow.result c.from_residual-in_err-follow.ensures.1 in
    let frame : FrameText (order_at q) b s c.in_ok-rest.rest.now = rw (← c.order.ensures) c.in_ok-rest.ensures.tells in
    rw (p.1, p.2) (body_refuses q s b c.in_ok-rest.rest.now frame c.in_err-follow.field-0.0 c.in_err-follow.ensures.1)

pub returns-clause-tells : goal.returns-clause-tells
returns-clause-tells c =
    let q = state_of c.args.self.now in
    record {
      frame = rw (← c.order.ensures) c.in_ok-rest.ensures.tells;
      means = c.in_ok-follow.ensures;
    }
