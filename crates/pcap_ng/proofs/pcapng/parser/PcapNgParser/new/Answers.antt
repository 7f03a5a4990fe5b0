use Rattle.std.proofs.lemmas.Result.{err_from_is_err_and}
use Rattle.pcap_ng.specs.Frames.{framed_of, FrameText}
use Rattle.pcap_ng.specs.State.{opening, order_at}
use Rattle.pcap_ng.specs.Blocks.{MayGrow}
use Rattle.pcap_ng.proofs.Refusing.{frame_refuses, body_refuses, opening_order}
use Rattle.pcap_ng.proofs.pcapng.parser.PcapNgParser.new.Goals as goal

pub returns-in_err-rest : goal.returns-in_err-rest
returns-in_err-rest c =
    let p = err_from_is_err_and c.from_residual.result c.from_residual.ensures.1 in
    record { tells = rw (p.1, p.2) (frame_refuses opening c.args.slice.now (MayGrow opening c.args.slice.now) c.in_err-rest.field-0.0 (rw opening_order c.in_err-rest.ensures.tells)) }

pub returns-in_err-in_force : goal.returns-in_err-in_force
returns-in_err-in_force c =
    let p = err_from_is_err_and c.from_residual-in_err-in_force.result c.from_residual-in_err-in_force.ensures.1 in
    let frame : FrameText (order_at opening) (framed_of c.in_ok-rest.block) c.args.slice.now c.in_ok-rest.rest.now = rw opening_order c.in_ok-rest.ensures.tells in
    record { tells = rw (p.1, p.2) (body_refuses opening c.args.slice.now (framed_of c.in_ok-rest.block) c.in_ok-rest.rest.now frame c.in_err-in_force.field-0.0 c.in_err-in_force.ensures) }

pub returns : goal.returns
returns c = record { tells = (framed_of c.in_ok-rest.block, record { frame = rw opening_order c.in_ok-rest.ensures.tells; means = c.in_ok-in_force.ensures }) }
