use Rattle.pcap_tolerant.proofs.AsIs.{as_is_one}
use Rattle.pcap_tolerant.proofs.laws.packet_as_it_stands_is_one.Goals as goal

pub returns : goal.returns
returns c = as_is_one
