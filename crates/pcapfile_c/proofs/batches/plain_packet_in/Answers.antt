use Rattle.std.proofs.Common.{refl, subst, sym}
use Rattle.pcap_core.specs.Answer.{Order}
use Rattle.pcap_blocks.specs.ParsedBlock.{EnhancedBody}
use Rattle.pcap_ng.specs.Enhanced.{enhanced_frame}
use Rattle.pcapfile_values.specs.Bodies.{PlainTells}
use Rattle.pcapfile_c.proofs.batches.plain_packet_in.Goals as goal

pub returns : goal.returns
returns g c =
    let e = c.args.order in
    let found = c.in_ok-body in
    let body = found.body.now in
    let packet = c.in_ok-packet.packet in
    let read = subst (λ (order : Order). PlainTells order body packet) (sym c.requires) c.in_ok-packet.ensures in
    record { block = enhanced_frame e found.ensures.0 body; body = EnhancedBody read.0; after = read.1; frame = found.ensures.1; is = refl; says = (read.0, refl, read.3.text); shows = read.2 }
