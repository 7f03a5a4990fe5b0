use Rattle.std.proofs.Common.{refl, sym, subst, arith}
use Rattle.pcap_ng.specs.Blocks.{block_format}
use Rattle.pcap_ng.proofs.EnhancedFrames.{packet_within}
use Rattle.pcapfile_info.specs.declared.progress.Progress.{Progress}
use Rattle.pcapfile_info.specs.KeptBlocks.{KeepsBlocks}
use Rattle.pcapfile_info.specs.Sights.{IsBlockSight}
use Rattle.pcapfile_info.proofs.EnhancedPackets.{walk_on, walk_stays}
use Rattle.pcapfile_info.proofs.Turns.{Walked, walked_none, walked_used}
use Rattle.pcapfile_info.proofs.progress.ClocksPasses.pass.Goals as goal
use Rattle.pcapfile_info.proofs.progress.ClocksPasses.pass.Goals.{else-loop-progress-test, then-loop-progress-test+in_default, then-loop-progress-test+in-Some+in-Err}

pub loop-progress-init : goal.loop-progress-init
loop-progress-init c = record {
  walked = λ q known. walked_none block_format IsBlockSight 0 KeepsBlocks q c.args.shown.now c.args.progress.now;
  shorter = omega arith;
  more = omega arith;
  within = c.requires.fewer;
  described = (refl, refl, refl);
}

pub loop-progress-preserved : goal.loop-progress-preserved
loop-progress-preserved c =
    let so_far = c.loop-progress.invariant in
    let adds = c.in-Ok.ensures.adds in
    record {
      walked = λ q known. walk_on c.args.self.now q known c.args.shown.now c.loop-progress.rest.now c.in-Some.after.now c.args.progress.now c.loop-progress.progress c.add_packet.new.self c.in-Some.packet c.seen-seen.result
          (so_far.walked q known) c.in-Some.ensures (rw c.as_slice-described.ensures.value at c.seen-seen.ensures.sees) c.seen-seen.ensures.time adds c.add_packet.ensures.same;
      shorter = omega (arith, so_far.shorter, packet_within c.args.self.now.order c.in-Some.packet c.loop-progress.rest.now c.in-Some.after.now c.in-Some.ensures);
      more = omega (arith, adds.0, so_far.more);
      within = omega (arith, adds.0, c.loop-progress-test.true);
      described = grind (arith, c.add_packet.ensures.same, so_far.described);
    }

pub returns-clause-walks : goal.returns-clause-walks
returns-clause-walks c = λ q known.
    let shown = c.args.shown.now in
    let rest = c.loop-progress.rest.now in
    let mid = c.args.progress.now in
    let so_far = c.loop-progress.invariant.walked q known in
    let at = λ (p : Progress). Walked block_format IsBlockSight 0 KeepsBlocks q q shown rest mid p in
    elim c.loop-progress-test.branch [
      | else-loop-progress-test w ↦ walked_used block_format IsBlockSight 0 KeepsBlocks q q shown rest mid c.loop-progress-test.progress (subst at (sym w.progress-is) so_far)
      | then-loop-progress-test+in_default w ↦ walked_used block_format IsBlockSight 0 KeepsBlocks q q shown rest mid c.loop-progress-test.progress (subst at (sym w.progress-is) so_far)
      | then-loop-progress-test+in-Some+in-Err w ↦
          walked_used block_format IsBlockSight 0 KeepsBlocks q q shown rest mid c.loop-progress-test.progress
          (subst at (sym w.progress-is) (walk_stays q shown rest mid c.loop-progress.progress w.add_packet.new.self so_far w.in-Err.ensures.adds w.add_packet.ensures.same))
    ]
