use Rattle.pcap_classic.specs.PacketText.{content_of}
use Rattle.pcap_walk.proofs.MetPackets.{front_stands}
use Rattle.pcap_walk.proofs.packets.front_in.Goals as goal

pub returns-in-Ok : goal.returns-in-Ok
returns-in-Ok g c = front_stands g.B.ByteOrder.number_of c.args.ts_resolution (content_of c.in-Ok.packet) c.args.bytes.now c.in-Ok.after.now c.in-Ok.ensures.tells
