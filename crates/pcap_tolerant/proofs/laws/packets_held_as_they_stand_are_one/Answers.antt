use Rattle.pcap_tolerant.proofs.FedPackets.{held_same}
use Rattle.pcap_tolerant.proofs.laws.packets_held_as_they_stand_are_one.Goals as goal

pub returns : goal.returns
returns c = held_same
