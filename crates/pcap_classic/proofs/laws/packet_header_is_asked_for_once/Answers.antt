use Rattle.std.proofs.Common.{arith, ◌++◌, length-append}
use Rattle.std.proofs.lemmas.List.{nil_from_length}
use Rattle.pcap_classic.proofs.FieldNumbers.{head_length}
use Rattle.pcap_classic.proofs.laws.packet_header_is_asked_for_once.Goals as goal

pub returns : goal.returns
returns c = λ limit order r n s more ask count. (
  λ m again. omega (arith, ask.missing, again.missing, again.some, count, length-append s more),
  λ header rest text. nil_from_length rest (omega (arith, ask.missing, count, length-append s more, head_length order text.head (s ++ more) rest text.text)),
)
