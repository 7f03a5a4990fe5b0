use Rattle.std.proofs.Common.{◌≡◌, ◌<◌, Some, ap, sym, ◌∙◌, arith}
use Rattle.std.proofs.lemmas.Slice.Eq.{bytes_eq-Decides}
use Rattle.pcap_core.specs.Faults.{rule_message}
use Rattle.pcap_core.proofs.EachRule.{place_of, at_its_place, has_place, one_message}
use Rattle.pcap_core.proofs.rules.Rule.from_message.Goals as goal

pub returns-then-eq-clause-found : goal.returns-then-eq-clause-found
returns-then-eq-clause-found c rule e = let same : c.text.result.now ≡ c.args.message.now = (bytes_eq-Decides _ _).0 (sym c.eq.ensures ∙ c.if-eq.true) in
    ap Some (one_message (sym c.text.ensures ∙ same ∙ sym e))

pub returns-clause-found : goal.returns-clause-found
returns-clause-found c rule e =
    let within : place_of rule < c.loop-rule.rule-index = omega (arith, has_place rule) in
    absurd (c.loop-rule.invariant (place_of rule) within (ap rule_message (at_its_place rule) ∙ e))
