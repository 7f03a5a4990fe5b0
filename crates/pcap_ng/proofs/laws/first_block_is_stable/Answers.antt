use Rattle.pcap_ng.proofs.FirstBlock.{opening_stable}
use Rattle.pcap_ng.proofs.laws.first_block_is_stable.Goals as goal

pub returns : goal.returns
returns c = opening_stable
