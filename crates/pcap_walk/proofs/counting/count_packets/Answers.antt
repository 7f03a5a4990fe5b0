use Rattle.pcap_classic.specs.PacketText.{packet_limit}
use Rattle.pcap_classic.proofs.Packets.{reader_lawful}
use Rattle.pcap_walk.proofs.counting.count_packets.Goals as goal

pub count_items-requires-clause-lawful : goal.count_items-requires-clause-lawful
count_items-requires-clause-lawful g c = reader_lawful packet_limit c.new.result.header.now
