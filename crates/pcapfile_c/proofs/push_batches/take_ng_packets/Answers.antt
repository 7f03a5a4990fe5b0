use Rattle.std.proofs.Common.{rules, ◌≡◌, ◌∙◌, [], arith, refl, ap, w32, to_z, of_z}
use Rattle.std.specs.Prelude.{slice_set}
use Rattle.std.proofs.lemmas.List.{length-set, set-get_or}
use Rattle.pcap_items.specs.Format.{state_after}
use Rattle.pcap_ng.specs.Blocks.{block_format}
use Rattle.pcapfile_c.proofs.Many.{others_kept}
use Rattle.pcapfile_c.proofs.Passing.{others_joined, others_none}
use Rattle.pcapfile_c.proofs.PacketsCome.{behind}
use Rattle.pcapfile_c.proofs.PushedNgPackets.{none_fills, packet_fills}
use Rattle.pcapfile_c.proofs.push_batches.take_ng_packets.Goals as goal

pub loop-taken-init : goal.loop-taken-init
loop-taken-init c = record { within = omega (arith, c.requires); passed = λ q shows. rw c.requires (([], refl, shows, tt), tt, refl); bases = λ had. had; leaves = λ q shows. others_none q c.args.section.now c.args.interfaces.now c.args.left.now.bytes.now shows; others = refl; fewer = omega arith }

pub loop-taken-preserved : goal.loop-taken-preserved
loop-taken-preserved c =
    let l = c.loop-taken in
    let here = c.take_packet-status in
    record {
      within = rw length-set (omega arith);
      passed = λ q shows.
          let so_far = l.invariant.passed q shows in
          let step = here.ensures.taken (behind q so_far.0.0) so_far.0.2 in
          let more = packet_fills q c.args.left.now.bytes.now l.left.bytes.now here.new.left.bytes.now l.section here.new.section l.interfaces here.new.interfaces l.packets l.taken _ here.new.packet l.error here.new.error here.result so_far.0 step c.loop-taken-test.true so_far.1 c.if-status-ne0.false in
          (more.0, more.1, more.2 ∙ so_far.2);
      bases = λ had. here.ensures.bases (l.invariant.bases had);
      leaves = λ q shows.
          let so_far = l.invariant.leaves q shows in
          others_joined q l.section here.new.section c.args.interfaces.now l.interfaces here.new.interfaces c.args.left.now.bytes.now l.left.bytes.now here.new.left.bytes.now so_far (here.ensures.others (state_after block_format q so_far.passed) so_far.in_force);
      others = others_kept l.packets c.args.packets.now l.taken here.new.packet l.invariant.others;
      fewer = omega (arith, here.ensures.fewer, l.invariant.fewer);
    }

pub returns-then-status-ne0-clause-taken : goal.returns-then-status-ne0-clause-taken
returns-then-status-ne0-clause-taken c q shows =
    let l = c.loop-taken in
    let here = c.take_packet-status in
    let so_far = l.invariant.passed q shows in
    let step = here.ensures.taken (behind q so_far.0.0) so_far.0.2 in
    let z = here.result in
    let same : to_z w32 (of_z w32 z) ≡ z = search rules in
    rw same (none_fills q c.args.left.now.bytes.now l.left.bytes.now here.new.left.bytes.now l.section here.new.section l.interfaces here.new.interfaces l.packets l.taken _ here.new.packet l.error here.new.error z so_far.0 step c.args.section.now c.args.interfaces.now c.args.packets.now _ c.args.error.now c.if-status-ne0.true c.loop-taken-test.true (λ is. ap (slice_set l.packets l.taken) is ∙ set-get_or l.packets l.taken _) l.invariant.others so_far.2)

pub returns-then-status-ne0-clause-others : goal.returns-then-status-ne0-clause-others
returns-then-status-ne0-clause-others c q shows =
    let l = c.loop-taken in
    let here = c.take_packet-status in
    let so_far = l.invariant.leaves q shows in
    others_joined q l.section here.new.section c.args.interfaces.now l.interfaces here.new.interfaces c.args.left.now.bytes.now l.left.bytes.now here.new.left.bytes.now so_far (here.ensures.others (state_after block_format q so_far.passed) so_far.in_force)
