use Rattle.std.proofs.Common.{◌≡◌, ◌+◌, ℕ, List, [], length, refl, arith}
use Rattle.pcap_core.specs.Answer.{Order, whole}
use Rattle.pcap_classic.specs.declared.common.TsResolution.{TsResolution}
use Rattle.pcap_classic.specs.PacketText.{Captured, packet_limit, content_of}
use Rattle.pcap_classic.specs.Packets.{packet_format}
use Rattle.pcap_classic.proofs.HeadedPackets.{packets_lawful}
use Rattle.pcap_classic.proofs.Packets.{packets_say}
use Rattle.pcap_classic.proofs.Texts.{packet_length}
use Rattle.pcapfile_info.specs.declared.seen.Sight.TheVariants.{Packet}
use Rattle.pcapfile_info.specs.Sights.{IsPacketSight, captured_seen}
use Rattle.pcapfile_info.specs.Telling.{KeepsTotals}
use Rattle.pcapfile_info.specs.Totals.{AllAre}
use Rattle.pcapfile_info.proofs.Turns.{walked_none, walked_more, walked_used}
use Rattle.pcapfile_info.proofs.passing.pass_whole.Goals as goal

packet_size : (order : Order) (r : TsResolution) (packet : Captured) (t : List ℕ) → (packet_format packet_limit order r).says tt t (whole packet []) → length t ≡ 16 + packet.header.incl_len
unfolding packet_format
packet_size order r packet t text = omega (arith, packet_length order packet_limit r packet t [] text)

pub loop-progress-init : goal.loop-progress-init
loop-progress-init g c = record {
  walked = walked_none (packet_format packet_limit g.B.ByteOrder.number_of c.args.ts_resolution) IsPacketSight 1 (KeepsTotals AllAre) tt c.args.shown.now c.args.progress.now;
  more = omega arith;
  within = c.requires;
  described = (refl, refl, refl);
}

pub loop-progress-preserved : goal.loop-progress-preserved
loop-progress-preserved g c =
    let order = g.B.ByteOrder.number_of in
    let r = c.args.ts_resolution in
    let rest = c.loop-progress.rest.now in
    let after = c.in-Ok.after.now in
    let packet = content_of c.in-Ok.packet in
    let says = c.in-Ok.ensures.tells in
    let adds = rw c.as_slice.ensures at c.add_packet_alone.ensures.adds in
    record {
      walked = walked_more (packet_format packet_limit order r) IsPacketSight 1 (KeepsTotals AllAre) (packets_lawful packet_limit order r) tt tt tt c.args.shown.now rest after c.args.progress.now c.loop-progress.progress c.add_packet_alone.new.self (16 + c.in-Ok.packet.header.incl_len) packet
          (Packet (captured_seen packet)) c.loop-progress.invariant.walked (packets_say packet_limit order r tt rest (whole packet after) says) refl (packet_size order r packet) adds.0 adds.1 (λ q items sights kept. (refl, adds.2 sights kept));
      more = omega (arith, adds.0, c.loop-progress.invariant.more);
      within = omega (arith, adds.0, c.loop-progress-test.true);
      described = grind (arith, c.add_packet_alone.ensures.same, c.loop-progress.invariant.described);
    }

pub returns-clause-walks : goal.returns-clause-walks
returns-clause-walks g c = walked_used (packet_format packet_limit g.B.ByteOrder.number_of c.args.ts_resolution) IsPacketSight 1 (KeepsTotals AllAre) tt tt _ _ _ _ c.loop-progress.invariant.walked
