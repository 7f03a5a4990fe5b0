use Rattle.std.proofs.Common.{[], take}
use Rattle.pcap_ng.specs.Ahead.{state_of}
use Rattle.pcap_ng.specs.Frames.{FrameText}
use Rattle.pcap_walk.specs.MetBlocks.{met_block}
use Rattle.pcapfile_run.proofs.SoundBlocks.{frame_in}
use Rattle.pcapfile_run.proofs.sound_blocks.SoundBlocksWalker.front.Goals as goal
use Rattle.pcapfile_run.proofs.sound_blocks.SoundBlocksWalker.front.Goals.{in-Ok, in-Err}

pub returns : goal.returns
returns c =
    let q = state_of c.args.self.now.blocks in
    let front = c.in_ok-front.front in
    let item = met_block q front.head (take front.size c.args.bytes.now) in
    let stands = c.in_ok-front.ensures in
    let frame : FrameText c.order.result item.block (take front.size c.args.bytes.now) [] = rw c.order.ensures (frame_in q item (take front.size c.args.bytes.now) stands.text) in
    elim c.match-parse_body.branch [
      | in-Ok w ↦ rw w.result-is (record { within = stands.within; text = (stands.text, w.in-Ok.ensures item.block frame); stays = stands.stays })
      | in-Err w ↦ rw w.result-is tt
    ]
