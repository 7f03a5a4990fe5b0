use Rattle.std.proofs.Common.{sym, ap, ◌∙◌, Option}
use Rattle.pcap_ng.proofs.Refusing.{opening_order}
use Rattle.pcap_tolerant_captures.specs.declared.parser.PcapNgParserAsIs.{PcapNgParserAsIs}
use Rattle.pcap_tolerant_captures.specs.State.{order_at}
use Rattle.pcap_tolerant_captures.specs.HeldAsIs.{state_in}
use Rattle.pcap_tolerant_captures.proofs.stated.order_in.Goals as goal

pub returns-in-None : goal.returns-in-None
returns-in-None c = sym (ap (λ (p : Option PcapNgParserAsIs). order_at (state_in p)) c.in-None.is ∙ opening_order)
