use Rattle.std.proofs.Common.{rules, ◌≡◌, [], refl, arith, ◌∙◌, w32, to_z, of_z}
use Rattle.pcap_items.specs.Format.{state_after}
use Rattle.pcap_ng.specs.Blocks.{block_format}
use Rattle.pcapfile_c.proofs.Passing.{others_done, puts_and_leaves, walk_done}
use Rattle.pcapfile_c.proofs.push_packets.take_packet.Goals as goal

pub loop-status-init : goal.loop-status-init
loop-status-init c = record { passed = λ q shows. (([], refl, refl, shows), refl, refl, λ i below. refl); bases = λ had. had; fewer = omega arith }

pub loop-status-preserved : goal.loop-status-preserved
loop-status-preserved c = record {
  passed = λ q shows.
      let l = c.loop-status in
      let so_far = l.invariant.passed q shows in
      let step = c.in-None.ensures.taken (state_after block_format q so_far.0.0) so_far.0.3 in
      let more = puts_and_leaves q l.section c.take_block.new.section c.args.interfaces.now l.interfaces c.take_block.new.interfaces c.args.left.now.bytes.now l.left.bytes.now c.take_block.new.left.bytes.now so_far.0 step.2 so_far.3 c.in-None.ensures.others in
      (more.0, step.1 ∙ so_far.1, step.0 ∙ so_far.2, more.1);
  bases = λ had. c.in-None.ensures.bases (c.loop-status.invariant.bases had);
  fewer = omega (arith, c.in-None.ensures.fewer, c.loop-status.invariant.fewer);
}

pub returns-in-Some-clause-taken : goal.returns-in-Some-clause-taken
returns-in-Some-clause-taken c q shows =
    let l = c.loop-status in
    let so_far = l.invariant.passed q shows in
    let step = c.in-Some.ensures.taken (state_after block_format q so_far.0.0) so_far.0.3 in
    let z = c.in-Some.status in
    let same : to_z w32 (of_z w32 z) ≡ z = search rules in
    rw same (walk_done q c.args.section.now l.section c.take_block.new.section c.args.interfaces.now l.interfaces c.take_block.new.interfaces c.args.left.now.bytes.now l.left.bytes.now c.take_block.new.left.bytes.now c.args.packet.now l.packet c.take_block.new.packet c.args.error.now l.error c.take_block.new.error z so_far.1 so_far.2 so_far.0 step)

pub returns-in-Some-clause-bases : goal.returns-in-Some-clause-bases
returns-in-Some-clause-bases c had = c.in-Some.ensures.bases (c.loop-status.invariant.bases had)

pub returns-in-Some-clause-others : goal.returns-in-Some-clause-others
returns-in-Some-clause-others c q shows =
    let l = c.loop-status in
    let so_far = l.invariant.passed q shows in
    let step = c.in-Some.ensures.taken (state_after block_format q so_far.0.0) so_far.0.3 in
    others_done q l.section l.interfaces c.args.interfaces.now c.take_block.new.interfaces c.take_block.new.section c.args.left.now.bytes.now l.left.bytes.now c.take_block.new.left.bytes.now l.packet c.take_block.new.packet l.error c.take_block.new.error c.in-Some.status so_far.0 step.0 step.1 step.2 so_far.3
