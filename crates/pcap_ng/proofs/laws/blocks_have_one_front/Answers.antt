use Rattle.pcap_items.proofs.Formats.{front_one}
use Rattle.pcap_ng.specs.Blocks.{block_format}
use Rattle.pcap_ng.proofs.BlockFormat.{blocks_lawful}
use Rattle.pcap_ng.proofs.laws.blocks_have_one_front.Goals as goal

pub returns : goal.returns
returns c = λ q s. front_one block_format blocks_lawful q s
