use Rattle.pcap_tolerant_blocks.proofs.OneAsIs.{list_one}
use Rattle.pcap_tolerant_blocks.proofs.laws.options_as_they_stand_are_one.Goals as goal

pub returns : goal.returns
returns c = list_one
