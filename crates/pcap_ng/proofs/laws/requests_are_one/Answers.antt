use Rattle.pcap_items.proofs.Requested.{run_one}
use Rattle.pcap_ng.specs.Blocks.{block_format}
use Rattle.pcap_ng.proofs.BlockFormat.{blocks_lawful}
use Rattle.pcap_ng.proofs.laws.requests_are_one.Goals as goal

pub returns : goal.returns
returns c = λ q items s rest ns others x y. run_one block_format blocks_lawful q items s rest ns others x y
