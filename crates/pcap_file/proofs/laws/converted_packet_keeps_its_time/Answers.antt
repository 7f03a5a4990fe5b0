use Rattle.pcap_file.proofs.ConvertedAgain.{exactly_timed}
use Rattle.pcap_file.proofs.laws.converted_packet_keeps_its_time.Goals as goal

pub returns : goal.returns
returns c = exactly_timed
