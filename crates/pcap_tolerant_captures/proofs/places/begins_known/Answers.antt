use Rattle.pcap_ng.specs.Frames.{framed_of}
use Rattle.pcap_tolerant_captures.proofs.KnownBlocks.{known_there, none_known}
use Rattle.pcap_tolerant_captures.proofs.places.begins_known.Goals as goal

pub returns-in-Ok : goal.returns-in-Ok
returns-in-Ok c =
    let block = framed_of c.in-Ok.block in
    let rest = c.in-Ok._rest.now in
    let frame = c.in-Ok.ensures.tells in (
      λ yes. (block, rest, frame, c.is_known.ensures.0 yes),
      λ known. c.is_known.ensures.1 (known_there c.args.order c.args.slice.now block rest frame known),
    )

pub returns-in-Err : goal.returns-in-Err
returns-in-Err c = (λ no. absurd cc, λ known. absurd (none_known c.args.order c.args.slice.now c.in-Err._error c.in-Err.ensures.tells known))
