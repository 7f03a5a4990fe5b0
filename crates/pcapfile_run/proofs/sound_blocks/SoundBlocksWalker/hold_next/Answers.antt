use Rattle.std.proofs.Common.{[]}
use Rattle.std.proofs.lemmas.Result.{err_from_is_err_and}
use Rattle.pcap_ng.specs.Ahead.{state_of, text_of}
use Rattle.pcap_ng.specs.Frames.{FrameText}
use Rattle.pcap_ng.proofs.BlockFormat.{goes_after}
use Rattle.pcap_walk.specs.MetBlocks.{met_block}
use Rattle.pcapfile_run.proofs.SoundBlocks.{body_pulled, frame_in, pulls_wider}
use Rattle.pcapfile_run.proofs.sound_blocks.SoundBlocksWalker.hold_next.Goals as goal

pub returns-in_err-head-clause-holds : goal.returns-in_err-head-clause-holds
returns-in_err-head-clause-holds g c =
    let p = err_from_is_err_and c.from_residual.result c.from_residual.ensures.1 in
    rw (p.1, p.2) (pulls_wider (state_of c.args.self.now.blocks) _ _ _ c.in_err-head.field-0.0 c.in_err-head.ensures.pulls)

pub returns-in_err-parse_body-clause-holds : goal.returns-in_err-parse_body-clause-holds
returns-in_err-parse_body-clause-holds g c =
    let p = err_from_is_err_and c.from_residual-in_err-parse_body.result c.from_residual-in_err-parse_body.ensures.1 in
    let q = state_of c.args.self.now.blocks in
    let held = text_of c.hold_next.new.self in
    let item = met_block (state_of c.hold_next.new.self) c.in-Some.head held in
    let pulls = rw c.in-Some.is at c.in_ok-head.ensures.pulls in
    let text = rw c.in-Some.is at c.in_ok-head.ensures.text in
    let frame : FrameText c.order-order.result item.block c.text.result.now [] = rw (c.order-order.ensures, c.text.ensures) (frame_in q item held text.0) in
    rw (p.1, p.2) (body_pulled q item held text.0 _ _ _ pulls.0 text.1 c.in_err-parse_body.field-0.0 (c.in_err-parse_body.ensures item.block frame))

pub returns-clause-holds : goal.returns-clause-holds
returns-clause-holds g c =
    let q = state_of c.args.self.now.blocks in
    let held = text_of c.hold_next.new.self in
    let item = met_block (state_of c.hold_next.new.self) c.in-Some.head held in
    let pulls = rw c.in-Some.is at c.in_ok-head.ensures.pulls in
    let text = rw c.in-Some.is at c.in_ok-head.ensures.text in
    let frame : FrameText c.order-order.result item.block c.text.result.now [] = rw (c.order-order.ensures, c.text.ensures) (frame_in q item held text.0) in
    (pulls.0, (text.0, c.in_ok-parse_body.ensures item.block frame), goes_after q item, text.1)
