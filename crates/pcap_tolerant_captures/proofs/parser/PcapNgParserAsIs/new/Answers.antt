use Rattle.std.proofs.lemmas.Result.{err_from_is_err_and}
use Rattle.pcap_ng.specs.Frames.{framed_of, FrameText}
use Rattle.pcap_ng.proofs.Refusing.{opening_order}
use Rattle.pcap_tolerant_captures.specs.State.{opening, order_at}
use Rattle.pcap_tolerant_captures.proofs.Refusing.{frame_refuses, body_refuses}
use Rattle.pcap_tolerant_captures.proofs.parser.PcapNgParserAsIs.new.Goals as goal

pub returns-in_err-rest-clause-tells : goal.returns-in_err-rest-clause-tells
returns-in_err-rest-clause-tells c =
    let p = err_from_is_err_and c.from_residual.result c.from_residual.ensures.1 in
    rw (p.1, p.2) (frame_refuses opening c.args.slice.now c.in_err-rest.field-0.0 (rw opening_order c.in_err-rest.ensures.tells))

pub returns-in_err-section-clause-tells : goal.returns-in_err-section-clause-tells
returns-in_err-section-clause-tells c =
    let p = err_from_is_err_and c.from_residual-in_err-section.result c.from_residual-in_err-section.ensures.1 in
    let frame : FrameText (order_at opening) (framed_of c.in_ok-rest.block) c.args.slice.now c.in_ok-rest.rest.now = rw opening_order c.in_ok-rest.ensures.tells in
    rw (p.1, p.2) (body_refuses opening c.args.slice.now (framed_of c.in_ok-rest.block) c.in_ok-rest.rest.now frame c.in_err-section.field-0.0 c.in_err-section.ensures)

pub returns-clause-tells : goal.returns-clause-tells
returns-clause-tells c = record { frame = rw opening_order c.in_ok-rest.ensures.tells; means = rw c.new.ensures c.in_ok-section.ensures }
