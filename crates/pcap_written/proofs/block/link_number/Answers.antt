use Rattle.std.proofs.Common.{◌≡◌, ◌∙◌, sym, subst, ap, arith}
use Rattle.std.specs.Prelude.{true}
use Rattle.std.proofs.Math.Dec.{eqb}
use Rattle.std.proofs.lemmas.Bool.{eqb-false, eqb-true, not-false, not-true}
use Rattle.pcap_core.specs.Link.{IsPlain, key}
use Rattle.pcap_core.proofs.Links.{key_same, plain_same}
use Rattle.pcap_written.proofs.block.link_number.Goals as goal

pub returns-then-ne : goal.returns-then-ne
returns-then-ne c = λ plain.
    eqb-false (key c.from.result) (key c.args.link) (not-true _ (sym c.ne.ensures ∙ c.if-ne.true)) (ap key (plain_same c.from.result c.args.link c.from.ensures.plain plain (c.from.ensures.number ∙ c.from-number.ensures)))

pub returns : goal.returns
returns c =
    let same : eqb (key c.from.result) (key c.args.link) ≡ true = not-false _ (sym c.ne.ensures ∙ c.if-ne.false) in
    (c.from-number.ensures, omega (arith, c.if-number-gt65535.false), subst IsPlain (key_same c.from.result c.args.link (eqb-true _ _ same)) c.from.ensures.plain)
