use Rattle.pcap_tolerant_blocks.proofs.StrictBodies.{enhanced_strict}
use Rattle.pcap_tolerant_blocks.proofs.laws.strict_enhanced_is.Goals as goal

pub returns : goal.returns
returns c = enhanced_strict
