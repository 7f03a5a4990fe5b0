use Rattle.pcap_items.proofs.Requested.{requests_asked}
use Rattle.pcap_ng.specs.Blocks.{block_format}
use Rattle.pcap_ng.proofs.BlockFormat.{blocks_lawful}
use Rattle.pcap_ng.proofs.laws.block_requests_are.Goals as goal

pub returns : goal.returns
unfolding block_format
returns c = λ q item s rest ns text asked. requests_asked block_format blocks_lawful q s rest ns item text asked
