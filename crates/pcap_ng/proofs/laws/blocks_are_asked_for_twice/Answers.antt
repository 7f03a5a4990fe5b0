use Rattle.std.proofs.Common.{◌∷◌}
use Rattle.pcap_items.proofs.Formats.{asks_twice, asks_exact}
use Rattle.pcap_ng.specs.Blocks.{block_format}
use Rattle.pcap_ng.proofs.BlockFormat.{blocks_lawful, block_said}
use Rattle.pcap_ng.proofs.laws.blocks_are_asked_for_twice.Goals as goal

pub returns : goal.returns
returns c = λ q n ns s t asked. (
  asks_twice block_format blocks_lawful q (n ∷ ns) s t asked,
  λ item rest text. asks_exact block_format blocks_lawful q n ns s t asked item rest (block_said q item t rest text),
)
