use Rattle.pcap_blocks.proofs.OneStatistics.{statistics_one}
use Rattle.pcap_blocks.proofs.laws.statistics_are_one.Goals as goal

pub returns : goal.returns
returns c = statistics_one
