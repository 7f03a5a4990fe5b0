use Rattle.pcap_tolerant_blocks.proofs.OneAsIs.{interface_one}
use Rattle.pcap_tolerant_blocks.proofs.laws.interface_as_it_stands_is_one.Goals as goal

pub returns : goal.returns
returns c = interface_one
