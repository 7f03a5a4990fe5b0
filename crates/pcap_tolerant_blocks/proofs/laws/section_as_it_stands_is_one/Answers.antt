use Rattle.pcap_tolerant_blocks.proofs.OneAsIs.{section_one}
use Rattle.pcap_tolerant_blocks.proofs.laws.section_as_it_stands_is_one.Goals as goal

pub returns : goal.returns
returns c = section_one
