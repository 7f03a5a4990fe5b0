use Rattle.pcap_classic.proofs.Exact.{packet_asks}
use Rattle.pcap_classic.proofs.laws.packet_requests_are.Goals as goal

pub returns : goal.returns
returns c = packet_asks
