use Rattle.std.proofs.lemmas.Result.{err_from_is_err_and}
use Rattle.pcap_ng.specs.Frames.{framed_of}
use Rattle.pcap_ng.specs.State.{state_in}
use Rattle.pcap_ng.proofs.Copied.{held_frame, held_follows}
use Rattle.pcap_ng.proofs.pcapng.copying.follow_held.Goals as goal

pub returns-in_err-block : goal.returns-in_err-block
returns-in_err-block c =
    let p = err_from_is_err_and c.from_residual.result c.from_residual.ensures.1 in
    rw (p.1, p.2) (held_frame (state_in c.args.in_force.now) c.args.frames.order c.requires.order c.args.held.now c.in_err-block.field-0.0 c.in_err-block.ensures)

pub returns : goal.returns
returns c = held_follows (state_in c.args.in_force.now) (state_in c.follow.new.self) c.args.frames.order c.requires.order (framed_of c.in_ok-block.block) c.args.held.now c.in_ok-block.ensures c.follow.result c.follow.ensures
