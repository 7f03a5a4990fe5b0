use Rattle.std.proofs.Common.{◌∙◌, arith}
use Rattle.pcap_core.specs.Answer.{number_in}
use Rattle.pcap_classic.specs.Magic.{order_of, resolution_of}
use Rattle.pcap_classic.specs.PacketText.{packet_limit, content_of}
use Rattle.pcap_items.proofs.Copying.{torn_write}
use Rattle.pcap_classic.proofs.Packets.{packets_say}
use Rattle.pcap_classic.proofs.Stretched.{sends_more}
use Rattle.pcap_classic.proofs.run.stretch.put_each.Goals as goal

pub returns-in-Err : goal.returns-in-Err
returns-in-Err g c =
    let magic = c.args.header.now.magic_number in
    let part = torn_write _ _ _ _ c.in-Err.ensures.out in (
      record {
        middle = c.loop-packets.rest.now;
        mid = g.W.Write.contents c.loop-packets.writer;
        whole_ones = c.loop-packets.invariant.sent;
        packet = content_of c.in-Ok.packet;
        next = packets_say packet_limit (number_in (order_of magic)) (resolution_of magic) tt _ _ c.in-Ok.ensures.tells;
        out = part.1;
      },
      omega (arith, c.loop-packets-test.true),
      part.0,
      c.in-Err.ensures.told,
    )

pub loop-packets-preserved : goal.loop-packets-preserved
loop-packets-preserved g c =
    let magic = c.args.header.now.magic_number in
    record {
      sent = sends_more c.args.header.now _ _ _ _ _ _ _ _ (content_of c.in-Ok.packet) c.loop-packets.invariant.sent
          (packets_say packet_limit (number_in (order_of magic)) (resolution_of magic) tt _ _ c.in-Ok.ensures.tells) c.in_default-put_packet.ensures.out;
      within = omega (arith, c.loop-packets-test.true);
      same = c.in_default-put_packet.ensures.told ∙ c.loop-packets.invariant.same;
    }
