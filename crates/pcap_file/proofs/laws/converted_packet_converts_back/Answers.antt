use Rattle.pcap_file.proofs.PlacedAgain.{packet_back}
use Rattle.pcap_file.proofs.laws.converted_packet_converts_back.Goals as goal

pub returns : goal.returns
returns c = packet_back
