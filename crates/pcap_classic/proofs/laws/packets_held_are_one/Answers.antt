use Rattle.pcap_classic.proofs.Pieces.{packets_held_same}
use Rattle.pcap_classic.proofs.laws.packets_held_are_one.Goals as goal

pub returns : goal.returns
returns c = packets_held_same
