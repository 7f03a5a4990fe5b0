use Rattle.std.proofs.Common.{[], arith, ◌+◌, ◌*◌, ◌^◌}
use Rattle.pcap_core.specs.Faults.{Invalid}
use Rattle.pcap_core.specs.declared.rules.Rule.TheVariants.{EnhancedTooShort, EnhancedCut}
use Rattle.pcap_core.proofs.Refusals.{named_shows}
use Rattle.pcap_blocks.proofs.StoredPackets.{stored}
use Rattle.pcapfile_c.specs.Options.{PacketFault, short, cut}
use Rattle.pcapfile_c.proofs.TakenOptions.{behind_first, packet_head}
use Rattle.pcapfile_c.proofs.options.behind_packet.Goals as goal

pub returns-then-body-lt20 : goal.returns-then-body-lt20
returns-then-body-lt20 g c =
    let Stands = PacketFault g.B.ByteOrder.number_of c.args.body.now in
    let fault : PacketFault g.B.ByteOrder.number_of c.args.body.now (Invalid EnhancedTooShort) = short (omega arith) in
    named_shows Stands EnhancedTooShort c.from.result fault c.from.ensures

pub returns-in-Some : goal.returns-in-Some
returns-in-Some g c =
    let order = g.B.ByteOrder.number_of in
    let front = c.split_at in
    let high = c.split_u32-high in
    let low = c.split_u32-low in
    let captured = c.split_u32-captured_len in
    let original = c.split_u32-original_len in
    record {
      packet = stored (high.result.0 * 2 ^ 32 + low.result.0) captured.result.0 original.result.0 c.in-Some._bytes.now [];
      after_interface = front.result.1.now;
      after_head = original.result.1.now;
      interface = behind_first 4 c.args.body.now front.result.0.now front.result.1.now front.ensures.front front.ensures.back front.ensures.front_len;
      head = packet_head order high.result.0 low.result.0 captured.result.0 original.result.0 front.result.1.now high.result.1.now low.result.1.now captured.result.1.now original.result.1.now c.in-Some._bytes.now high.ensures.number low.ensures.number captured.ensures.number original.ensures.number;
      captured = c.in-Some.ensures.len;
      padded = c.in-Some.ensures.padded;
    }

pub returns-in-None : goal.returns-in-None
returns-in-None g c =
    let order = g.B.ByteOrder.number_of in
    let front = c.split_at in
    let high = c.split_u32-high in
    let low = c.split_u32-low in
    let captured = c.split_u32-captured_len in
    let original = c.split_u32-original_len in
    let interface = behind_first 4 c.args.body.now front.result.0.now front.result.1.now front.ensures.front front.ensures.back front.ensures.front_len in
    let head = packet_head order high.result.0 low.result.0 captured.result.0 original.result.0 front.result.1.now high.result.1.now low.result.1.now captured.result.1.now original.result.1.now [] high.ensures.number low.ensures.number captured.ensures.number original.ensures.number in
    let fault : PacketFault order c.args.body.now (Invalid EnhancedCut) = cut _ _ _ interface head c.in-None.ensures.len in
    named_shows (PacketFault order c.args.body.now) EnhancedCut c.from-in-None.result fault c.from-in-None.ensures
