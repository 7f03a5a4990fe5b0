use Rattle.pcap_tolerant_blocks.proofs.OneBodies.{simple_as_is_one}
use Rattle.pcap_tolerant_blocks.proofs.laws.simple_as_it_stands_is_one.Goals as goal

pub returns : goal.returns
returns c = simple_as_is_one
