use Rattle.pcap_tolerant_blocks.proofs.StrictBodies.{interface_strict}
use Rattle.pcap_tolerant_blocks.proofs.laws.strict_interface_is.Goals as goal

pub returns : goal.returns
returns c = interface_strict
