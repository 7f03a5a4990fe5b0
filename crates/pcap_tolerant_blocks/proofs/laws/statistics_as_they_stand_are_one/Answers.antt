use Rattle.pcap_tolerant_blocks.proofs.OneBodies.{statistics_one}
use Rattle.pcap_tolerant_blocks.proofs.laws.statistics_as_they_stand_are_one.Goals as goal

pub returns : goal.returns
returns c = statistics_one
