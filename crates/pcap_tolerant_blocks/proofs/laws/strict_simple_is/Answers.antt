use Rattle.pcap_tolerant_blocks.proofs.StrictBodies.{simple_strict}
use Rattle.pcap_tolerant_blocks.proofs.laws.strict_simple_is.Goals as goal

pub returns : goal.returns
returns c = simple_strict
