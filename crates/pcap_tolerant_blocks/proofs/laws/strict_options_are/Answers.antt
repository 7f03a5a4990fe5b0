use Rattle.pcap_tolerant_blocks.proofs.StrictLists.{list_strict}
use Rattle.pcap_tolerant_blocks.proofs.laws.strict_options_are.Goals as goal

pub returns : goal.returns
returns c = list_strict
