use Rattle.pcap_tolerant_blocks.proofs.OneNames.{names_one}
use Rattle.pcap_tolerant_blocks.proofs.laws.names_as_they_stand_are_one.Goals as goal

pub returns : goal.returns
returns c = names_one
