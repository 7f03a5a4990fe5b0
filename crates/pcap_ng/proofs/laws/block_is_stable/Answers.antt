use Rattle.pcap_ng.proofs.FirstBlock.{block_stable}
use Rattle.pcap_ng.proofs.laws.block_is_stable.Goals as goal

pub returns : goal.returns
returns c = block_stable
