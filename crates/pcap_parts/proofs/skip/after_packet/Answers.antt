use Rattle.std.proofs.Common.{rules, ◌≡◌, ◌++◌, length}
use Rattle.pcap_classic.specs.PacketText.{Captured, PacketText, packet_limit}
use Rattle.pcap_parts.proofs.skip.after_packet.Goals as goal

pub returns : goal.returns
returns g c =
    let packet : Captured = record { header = c.in_ok-rest.header; bytes = c.split_at.result.0.now } in
    let split : c.in_ok-rest.rest.now ≡ c.split_at.result.0.now ++ c.split_at.result.1.now = search rules in
    let long : length c.split_at.result.0.now ≡ c.in_ok-rest.header.incl_len = search rules in
    let text : PacketText packet_limit g.B.ByteOrder.number_of c.args.r packet c.args.slice.now c.split_at.result.1.now =
    record { after = c.in_ok-rest.rest.now; header = c.in_ok-rest.ensures.tells; data_is = split; whole = long } in
    (packet, text)
