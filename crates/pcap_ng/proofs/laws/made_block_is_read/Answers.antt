use Rattle.pcap_ng.proofs.WrittenAgain.{made_again}
use Rattle.pcap_ng.proofs.laws.made_block_is_read.Goals as goal

pub returns : goal.returns
returns c = made_again
