use Rattle.std.proofs.Common.{◌≡◌, ◌∙◌, ◌+◌, ◌-◌, ◌^◌, ◌++◌, ◌∷◌, ℕ, List, [], ap, arith, length, length-append, min, rules, subst, sym}
use Rattle.pcap_filter.specs.declared.program.Instruction.{Instruction}
use Rattle.pcap_filter.specs.Texts.{AreLines, IsLine}
use Rattle.pcap_filter.proofs.Texts.{lines_more, some_left}
use Rattle.pcap_filter.proofs.text.instructions.Goals as goal

pub returns-in-None : goal.returns-in-None
returns-in-None c =
    rw c.broken.ensures (record {
      before = c.loop-rest.program.items;
      rest = c.loop-rest.rest.now;
      lines = c.loop-rest.invariant.1;
      some = some_left c.is_empty.result c.loop-rest.rest.now c.loop-rest-test.true c.is_empty.ensures;
      other = subst (λ (l : List ℕ). (instruction : Instruction) → ¬ (IsLine l instruction)) c.cut.ensures.before c.in-None.ensures;
      number = c.saturating_add.ensures ∙ ap (λ (n : ℕ). min (n + 2) (2 ^ 64 - 1)) (c.len.ensures ∙ c.loop-rest.invariant.2);
    })

pub loop-rest-preserved : goal.loop-rest-preserved
loop-rest-preserved c =
    let items = c.loop-rest.program.items in
    let last = c.in-Some.instruction ∷ [] in
    let pushed = c.in_ok-push-in-Some.ensures.items in
    let some = some_left c.is_empty.result c.loop-rest.rest.now c.loop-rest-test.true c.is_empty.ensures in
    let line = subst (λ (l : List ℕ). IsLine l c.in-Some.instruction) c.cut.ensures.before c.in-Some.ensures in
    let more = lines_more c.args.text.now c.loop-rest.rest.now items c.in-Some.instruction c.loop-rest.invariant.1 some line in
    let there = subst (λ (l : List ℕ). AreLines c.args.text.now (items ++ last) l) (sym c.cut.ensures.behind) more in
    let long = ap length pushed ∙ length-append items last in (
      search rules,
      subst (λ (l : List Instruction). AreLines c.args.text.now l c.cut.result.1.now) (sym pushed) there,
      omega (arith, c.in_ok-push-in-Some.ensures.len, c.loop-rest.invariant.2, long),
    )
