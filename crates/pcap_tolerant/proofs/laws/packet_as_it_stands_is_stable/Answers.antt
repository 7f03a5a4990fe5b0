use Rattle.pcap_tolerant.proofs.AsIs.{as_is_stable}
use Rattle.pcap_tolerant.proofs.laws.packet_as_it_stands_is_stable.Goals as goal

pub returns : goal.returns
returns c = as_is_stable
