use Rattle.pcap_ng.proofs.AcceptedBlocks.{copy_begins}
use Rattle.pcap_ng.proofs.laws.copy_is_a_beginning.Goals as goal

pub returns : goal.returns
returns c = copy_begins
