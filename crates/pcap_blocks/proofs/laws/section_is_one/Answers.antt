use Rattle.pcap_blocks.proofs.OneSection.{section_one}
use Rattle.pcap_blocks.proofs.laws.section_is_one.Goals as goal

pub returns : goal.returns
returns c = section_one
