use Rattle.std.proofs.Common.{arith}
use Rattle.pcap_classic.specs.PacketText.{content_of}
use Rattle.pcap_file.specs.Converted.{time_of}
use Rattle.pcap_file.proofs.Converting.{packet_short, packet_put}
use Rattle.pcap_file.proofs.run.converting.PacketBlocksPutsPacket.put_held.Goals as goal

pub put_packet-requires : goal.put_packet-requires
put_packet-requires g c = rw c.as_slice.ensures (packet_short c.args.held.from.now c.args.held.bytes.now (content_of c.packet-packet.result) c.packet-packet.ensures)

pub returns : goal.returns
returns g c =
    let packet = content_of c.packet-packet.result in
    (packet, c.packet-packet.ensures, packet_put _ _ c.put_packet.result _ (time_of packet) packet.header.orig_len _ packet.bytes (omega (arith, c.from.ensures, c.from-2.ensures)) c.as_slice.ensures c.put_packet.ensures.out)
