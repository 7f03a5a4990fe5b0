use Rattle.pcap_ng.proofs.FedBlocks.{blocks_held_same}
use Rattle.pcap_ng.proofs.laws.blocks_held_are_one.Goals as goal

pub returns : goal.returns
returns c = blocks_held_same
