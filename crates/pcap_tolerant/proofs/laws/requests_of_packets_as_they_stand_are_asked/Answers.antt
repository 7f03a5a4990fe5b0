use Rattle.pcap_core.specs.Answer.{whole}
use Rattle.pcap_items.proofs.Requested.{requests_asked}
use Rattle.pcap_tolerant.specs.AsIs.{as_is_format}
use Rattle.pcap_tolerant.proofs.AsIs.{as_is_lawful, as_is_say}
use Rattle.pcap_tolerant.proofs.laws.requests_of_packets_as_they_stand_are_asked.Goals as goal

pub returns : goal.returns
returns c = λ limit order r packet s rest ns text asked.
    let all = requests_asked (as_is_format limit order r) (as_is_lawful limit order r) tt s rest ns packet (as_is_say limit order r s (whole packet rest) text) asked in
    (all.0, all.1, all.3)
