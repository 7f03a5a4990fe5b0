use Rattle.pcap_tolerant_blocks.proofs.StrictBodies.{packet_strict}
use Rattle.pcap_tolerant_blocks.proofs.laws.strict_packet_block_is.Goals as goal

pub returns : goal.returns
returns c = packet_strict
