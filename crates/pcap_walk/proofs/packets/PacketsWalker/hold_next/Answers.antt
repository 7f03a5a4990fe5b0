use Rattle.pcap_classic.specs.PacketText.{packet_limit}
use Rattle.pcap_classic.proofs.Packets.{reader_lawful}
use Rattle.pcap_walk.proofs.MetPackets.{packet_filled}
use Rattle.pcap_walk.proofs.packets.PacketsWalker.hold_next.Goals as goal

pub fill_item-requires-clause-lawful : goal.fill_item-requires-clause-lawful
fill_item-requires-clause-lawful g c = reader_lawful packet_limit c.args.self.now.header.now

pub returns-clause-holds : goal.returns-clause-holds
returns-clause-holds g c = packet_filled c.args.self.now.header.now _ _ _ _ c.fill_item.result c.fill_item.ensures.fills
