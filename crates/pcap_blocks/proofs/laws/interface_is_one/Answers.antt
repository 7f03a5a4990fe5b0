use Rattle.pcap_blocks.proofs.OneInterface.{interface_one}
use Rattle.pcap_blocks.proofs.laws.interface_is_one.Goals as goal

pub returns : goal.returns
returns c = interface_one
