use Rattle.pcap_blocks.proofs.OnePacket.{packet_body_one}
use Rattle.pcap_blocks.proofs.laws.packet_body_is_one.Goals as goal

pub returns : goal.returns
returns c = packet_body_one
