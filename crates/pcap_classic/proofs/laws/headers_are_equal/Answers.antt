use Rattle.std.proofs.Common.{sym, ◌∙◌, ◌≡◌, true, subst}
use Rattle.pcap_classic.specs.declared.pcap.header.PcapHeader.{PcapHeader}
use Rattle.pcap_classic.proofs.Equal.{same_header, header_equal, header_equal_itself}
use Rattle.pcap_classic.proofs.laws.headers_are_equal.Goals as goal

pub returns : goal.returns
returns c = (
  λ same. header_equal c.args.left.now c.args.right.now (sym c.eq.ensures ∙ same),
  λ is. c.eq.ensures ∙ subst (λ (q : PcapHeader). same_header c.args.left.now q ≡ true) is (header_equal_itself c.args.left.now),
)
