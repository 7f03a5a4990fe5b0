use Rattle.pcap_classic.specs.Packets.{packet_format}
use Rattle.pcap_classic.proofs.HeadedPackets.{packets_lawful}
use Rattle.pcap_items.proofs.Requested.{run_one}
use Rattle.pcap_classic.proofs.laws.requests_are_one.Goals as goal

pub returns : goal.returns
returns c = λ limit order r packets s rest ns others x y. run_one (packet_format limit order r) (packets_lawful limit order r) tt packets s rest ns others x y
