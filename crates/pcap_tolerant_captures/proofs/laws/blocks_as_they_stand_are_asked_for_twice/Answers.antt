use Rattle.std.proofs.Common.{◌∷◌}
use Rattle.pcap_core.specs.Answer.{whole}
use Rattle.pcap_items.proofs.Formats.{asks_twice, asks_exact}
use Rattle.pcap_tolerant_captures.specs.Blocks.{as_is_format}
use Rattle.pcap_tolerant_captures.proofs.Format.{as_is_lawful, as_is_said}
use Rattle.pcap_tolerant_captures.proofs.laws.blocks_as_they_stand_are_asked_for_twice.Goals as goal

pub returns : goal.returns
returns c = λ q n ns s t asked. (
  asks_twice as_is_format as_is_lawful q (n ∷ ns) s t asked,
  λ item rest text. asks_exact as_is_format as_is_lawful q n ns s t asked item rest (as_is_said q t (whole item rest) text),
)
