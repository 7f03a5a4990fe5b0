use Rattle.pcap_classic.specs.PacketText.{packet_limit}
use Rattle.pcap_classic.proofs.Packets.{reader_lawful}
use Rattle.pcap_classic.proofs.StatedPackets.{packet_held}
use Rattle.pcap_classic.proofs.pcap.reader.hold.Goals as goal

pub item-requires-clause-lawful : goal.item-requires-clause-lawful
item-requires-clause-lawful g c = reader_lawful packet_limit c.args.header.now

pub returns-clause-pulls : goal.returns-clause-pulls
returns-clause-pulls g c = packet_held c.args.header.now _ _ _ _ c.item.result c.item.ensures.fills
