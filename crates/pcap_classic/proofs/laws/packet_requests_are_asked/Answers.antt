use Rattle.pcap_classic.specs.Packets.{packet_format}
use Rattle.pcap_classic.proofs.HeadedPackets.{packets_lawful}
use Rattle.pcap_items.proofs.Requested.{requests_asked}
use Rattle.pcap_classic.proofs.laws.packet_requests_are_asked.Goals as goal

pub returns : goal.returns
unfolding packet_format
returns c = λ limit order r packet s rest ns text asked.
    let all = requests_asked (packet_format limit order r) (packets_lawful limit order r) tt s rest ns packet text asked in
    (all.0, all.1, all.3)
