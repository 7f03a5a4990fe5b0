use Rattle.pcap_tolerant.specs.AsIs.{as_is_format}
use Rattle.pcap_items.proofs.Formats.{front_one}
use Rattle.pcap_tolerant.proofs.AsIs.{as_is_lawful}
use Rattle.pcap_tolerant.proofs.laws.packets_as_they_stand_have_one_front.Goals as goal

pub returns : goal.returns
returns c = λ limit order r s. front_one (as_is_format limit order r) (as_is_lawful limit order r) tt s
