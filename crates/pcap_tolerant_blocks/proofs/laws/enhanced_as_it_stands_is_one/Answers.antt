use Rattle.pcap_tolerant_blocks.proofs.OneBodies.{enhanced_one}
use Rattle.pcap_tolerant_blocks.proofs.laws.enhanced_as_it_stands_is_one.Goals as goal

pub returns : goal.returns
returns c = enhanced_one
