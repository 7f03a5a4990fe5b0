use Rattle.std.proofs.Common.{◌∷◌}
use Rattle.pcap_core.specs.Answer.{whole}
use Rattle.pcap_items.proofs.Formats.{asks_twice, asks_exact}
use Rattle.pcap_tolerant.specs.AsIs.{as_is_format}
use Rattle.pcap_tolerant.proofs.AsIs.{as_is_lawful, as_is_say}
use Rattle.pcap_tolerant.proofs.laws.packets_as_they_stand_are_asked_for_twice.Goals as goal

pub returns : goal.returns
returns c = λ limit order r n ns s t asked. (
  asks_twice (as_is_format limit order r) (as_is_lawful limit order r) tt (n ∷ ns) s t asked,
  λ packet rest text. asks_exact (as_is_format limit order r) (as_is_lawful limit order r) tt n ns s t asked packet rest (as_is_say limit order r t (whole packet rest) text),
)
