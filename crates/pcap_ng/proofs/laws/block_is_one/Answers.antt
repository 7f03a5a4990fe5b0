use Rattle.pcap_ng.proofs.BlockFormat.{block_one}
use Rattle.pcap_ng.proofs.laws.block_is_one.Goals as goal

pub returns : goal.returns
returns c = block_one
