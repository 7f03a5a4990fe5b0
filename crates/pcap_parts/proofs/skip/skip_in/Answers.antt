use Rattle.std.proofs.Common.{arith, refl}
use Rattle.pcap_core.specs.Answer.{whole}
use Rattle.pcap_items.specs.Run.{rest_after}
use Rattle.pcap_items.proofs.Fronts.{stops}
use Rattle.pcap_classic.specs.PacketText.{packet_limit}
use Rattle.pcap_classic.specs.Packets.{packet_format}
use Rattle.pcap_classic.proofs.HeadedPackets.{packets_lawful}
use Rattle.pcap_classic.proofs.Packets.{packets_say, packets_refuse}
use Rattle.pcap_parts.proofs.Passing.{passing_ends, passing_more, passing_none, passing_rest}
use Rattle.pcap_parts.proofs.skip.skip_in.Goals as goal

pub loop-after-init : goal.loop-after-init
loop-after-init g c =
    let order = g.B.ByteOrder.number_of in
    record { passing = passing_none (packet_format packet_limit order c.args.r) (packets_lawful packet_limit order c.args.r) tt c.args.slice.now c.args.at_least }

pub loop-after-preserved : goal.loop-after-preserved
loop-after-preserved g c =
    let order = g.B.ByteOrder.number_of in
    let mid = c.loop-after.after.now in
    let after = c.in-Ok.next.now in
    let x = c.in-Ok.ensures in
    record {
      passing = passing_more (packet_format packet_limit order c.args.r) (packets_lawful packet_limit order c.args.r) tt c.args.slice.now c.args.at_least tt tt x.0 mid after c.loop-after.items c.loop-after.invariant.passing
          (packets_say packet_limit order c.args.r tt mid (whole x.0 after) x.1) refl (omega (arith, c.loop-after-test.true, c.saturating_sub-last.ensures));
    }

pub returns-in-Err-clause-passes : goal.returns-in-Err-clause-passes
returns-in-Err-clause-passes g c =
    let order = g.B.ByteOrder.number_of in
    let f = packet_format packet_limit order c.args.r in
    let laws = packets_lawful packet_limit order c.args.r in
    let left = c.loop-after.after.now in
    let error = c.in-Err.error in
    let is = (stops f laws tt left error (omega (arith, c.loop-after-test.true)) (packets_refuse packet_limit order c.args.r tt left error c.in-Err.ensures)).rest in
    rw c.rest_at.ensures (passing_rest f laws tt c.args.slice.now c.args.at_least tt left c.loop-after.items (rest_after error) c.loop-after.invariant.passing
    (omega (arith, c.loop-after-test.true, c.saturating_sub-last.ensures)) is).passes

pub returns-clause-passes : goal.returns-clause-passes
returns-clause-passes g c =
    let order = g.B.ByteOrder.number_of in
    (passing_ends (packet_format packet_limit order c.args.r) (packets_lawful packet_limit order c.args.r) tt c.args.slice.now c.args.at_least tt c.loop-after.after.now c.loop-after.items c.rest_of_all.result
    c.loop-after.invariant.passing (omega (arith, c.loop-after-test.false, c.saturating_sub-last.ensures)) c.rest_of_all.ensures).passes
