use Rattle.std.proofs.lemmas.Result.{err_from_is_err_and}
use Rattle.pcap_ng.specs.Frames.{framed_of}
use Rattle.pcap_ng.proofs.Causes.{frame_opens, body_opens}
use Rattle.pcap_ng.proofs.pcapng.taking.opened.Goals as goal

pub returns-in_err-block : goal.returns-in_err-block
returns-in_err-block c =
    let p = err_from_is_err_and c.from_residual.result c.from_residual.ensures.1 in
    rw (p.1, p.2) (frame_opens c.args.bytes.now c.in_err-block.field-0.0 c.in_err-block.ensures)

pub returns : goal.returns
returns c = body_opens (framed_of c.in_ok-block.block) c.args.bytes.now c.after.result c.in_ok-block.ensures c.after.ensures
