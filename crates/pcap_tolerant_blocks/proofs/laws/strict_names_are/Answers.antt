use Rattle.pcap_tolerant_blocks.proofs.StrictNames.{names_strict}
use Rattle.pcap_tolerant_blocks.proofs.laws.strict_names_are.Goals as goal

pub returns : goal.returns
returns c = names_strict
