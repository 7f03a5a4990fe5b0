use Rattle.std.proofs.Common.{ap, sym, ◌∙◌}
use Rattle.std.proofs.lemmas.Bool.{eqb-true, eq-eqb}
use Rattle.pcap_core.specs.Link.{key}
use Rattle.pcap_core.proofs.Links.{key_same}
use Rattle.pcap_classic.proofs.laws.links_are_equal.Goals as goal

pub returns : goal.returns
returns c = (
  λ same. key_same c.args.left c.args.right (eqb-true _ _ (sym c.eq.ensures ∙ same)),
  λ is. c.eq.ensures ∙ eq-eqb _ _ (ap key is),
)
