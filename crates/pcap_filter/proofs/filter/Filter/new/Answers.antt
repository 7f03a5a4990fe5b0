use Rattle.std.proofs.Common.{◌≡◌, ◌<◌, ◌∙◌, ◌==◌, ℕ, Bool, false, arith, inr, length}
use Rattle.std.proofs.lemmas.Bool.Decides.{nat_tests}
use Rattle.pcap_filter.proofs.Valid.{breaks_here, mean_next, taken_is_program, taken_whole}
use Rattle.pcap_filter.proofs.filter.Filter.new.Goals as goal

not_empty : (is_empty : Bool) (n : ℕ) → is_empty ≡ false → is_empty ≡ (n == 0) → 0 < n
not_empty is_empty n is test = grind (arith, nat_tests)

pub returns-in-Err : goal.returns-in-Err
returns-in-Err c =
    let i = c.loop-instruction.invariant in
    inr (inr (
      c.if-program-gt-LONGEST.false,
      breaks_here c.args.program.now c.loop-instruction.instruction-index c.len-place.result _ c.loop-instruction.steps.items _ c.in-Err.rule c.loop-instruction-test.true
          (c.len-place.ensures ∙ i.count) (omega (arith, c.len-place.ensures, i.count)) i.mean c.in-Err.ensures,
    ))

pub loop-instruction-preserved : goal.loop-instruction-preserved
loop-instruction-preserved c =
    let i = c.loop-instruction.invariant in
    record {
      mean = mean_next c.args.program.now c.loop-instruction.instruction-index _ c.loop-instruction.steps.items _ _ c.in-Ok.step c.loop-instruction-test.true i.mean c.in-Ok.ensures
          (omega (arith, c.len-place.ensures, i.count)) c.in_ok-push-in-Ok.ensures.items;
      count = omega (arith, c.in_ok-push-in-Ok.ensures.len, i.count);
    }

pub invariant_of-result : goal.invariant_of-result
invariant_of-result c =
    taken_is_program c.args.program.now c.loop-instruction.steps.items
    (taken_whole c.args.program.now c.loop-instruction.steps.items c.loop-instruction.instruction-index
    (not_empty c.is_empty.result (length c.args.program.now) c.if-is_empty.false c.is_empty.ensures)
    c.if-program-gt-LONGEST.false c.loop-instruction-test.false c.loop-instruction.auto.instruction-index-end c.loop-instruction.invariant.mean)
