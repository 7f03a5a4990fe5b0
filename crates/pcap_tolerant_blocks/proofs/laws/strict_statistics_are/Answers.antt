use Rattle.pcap_tolerant_blocks.proofs.StrictBodies.{statistics_strict}
use Rattle.pcap_tolerant_blocks.proofs.laws.strict_statistics_are.Goals as goal

pub returns : goal.returns
returns c = statistics_strict
