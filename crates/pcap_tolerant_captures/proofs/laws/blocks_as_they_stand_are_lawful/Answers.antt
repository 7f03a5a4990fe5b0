use Rattle.pcap_tolerant_captures.proofs.Format.{as_is_lawful}
use Rattle.pcap_tolerant_captures.proofs.laws.blocks_as_they_stand_are_lawful.Goals as goal

pub returns : goal.returns
returns c = as_is_lawful
