use Rattle.std.proofs.Common.{◌∷◌, [], ◌++◌, ◌∙◌, length-append, arith, inr}
use Rattle.pcap_core.specs.Answer.{number_in, whole}
use Rattle.pcap_classic.specs.Magic.{order_of, resolution_of}
use Rattle.pcap_classic.specs.Packets.{format_under}
use Rattle.pcap_classic.specs.PacketText.{packet_limit, content_of}
use Rattle.pcap_items.proofs.Formats.{texts_push}
use Rattle.pcap_classic.proofs.Packets.{packets_say}
use Rattle.pcap_classic.proofs.Stretched.{refused_none}
use Rattle.pcap_classic.proofs.run.stretch.whole_packets.Goals as goal

pub returns-in_default : goal.returns-in_default
returns-in_default c =
    let so_far = c.loop-packets.invariant in
    record {
      packets = so_far.taken;
      count = so_far.count;
      texts = so_far.texts;
      within = so_far.within;
      stops = inr (refused_none c.args.header.now _ c.in_default.field-0 c.in_default.ensures.tells);
    }

pub loop-packets-preserved : goal.loop-packets-preserved
loop-packets-preserved c =
    let magic = c.args.header.now.magic_number in
    let so_far = c.loop-packets.invariant in
    let packet = content_of c.in-Ok.field-0-1 in
    let says = packets_say packet_limit (number_in (order_of magic)) (resolution_of magic) tt c.loop-packets.rest.now (whole packet c.in-Ok.after.now) c.in-Ok.ensures.tells in
    record {
      taken = so_far.taken ++ packet ∷ [];
      count = length-append so_far.taken (packet ∷ []) ∙ omega (arith, so_far.count);
      texts = texts_push (format_under packet_limit c.args.header.now) tt so_far.taken packet c.args.bytes.now c.loop-packets.rest.now c.in-Ok.after.now so_far.texts says;
      within = omega (arith, c.loop-packets-test.true);
    }
