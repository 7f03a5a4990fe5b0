use Rattle.pcap_ng.proofs.FirstBlock.{opening_one}
use Rattle.pcap_ng.proofs.laws.first_block_is_one.Goals as goal

pub returns : goal.returns
returns c = opening_one
