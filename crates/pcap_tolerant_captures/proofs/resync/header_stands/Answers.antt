use Rattle.pcap_ng.specs.Frames.{framed_of}
use Rattle.pcap_tolerant_captures.proofs.FrameRows.{header_is, no_header}
use Rattle.pcap_tolerant_captures.proofs.resync.header_stands.Goals as goal

pub returns-in-Ok : goal.returns-in-Ok
returns-in-Ok c =
    let b = framed_of c.in-Ok.block in
    let rest = c.in-Ok._rest.now in
    let frame = c.in-Ok.ensures.tells in (
      λ yes. let is = c.names_its_order.ensures.0 yes in record { block = b; rest = rest; frame = frame; is_header = is.0; room = is.1 },
      λ header. c.names_its_order.ensures.1 (header_is c.args.order c.args.slice.now b rest frame header),
    )

pub returns-in-Err : goal.returns-in-Err
returns-in-Err c = (λ no. absurd cc, λ header. absurd (no_header c.args.order c.args.slice.now c.in-Err._e c.in-Err.ensures.tells header))
