use Rattle.pcap_tolerant_captures.proofs.FedBlocks.{held_same}
use Rattle.pcap_tolerant_captures.proofs.laws.blocks_held_as_they_stand_are_one.Goals as goal

pub returns : goal.returns
returns c = held_same
