use Rattle.pcap_tolerant_blocks.proofs.OneBodies.{packet_one}
use Rattle.pcap_tolerant_blocks.proofs.laws.packet_block_as_it_stands_is_one.Goals as goal

pub returns : goal.returns
returns c = packet_one
