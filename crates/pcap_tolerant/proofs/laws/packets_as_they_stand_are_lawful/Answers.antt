use Rattle.pcap_tolerant.proofs.AsIs.{as_is_lawful}
use Rattle.pcap_tolerant.proofs.laws.packets_as_they_stand_are_lawful.Goals as goal

pub returns : goal.returns
returns c = as_is_lawful
