use Rattle.std.proofs.Common.{arith, rules, ap, refl, ◌∙◌, inr}
use Rattle.std.proofs.lemmas.Result.{err_from_is_err_and}
use Rattle.pcap_file.specs.declared.run.placing.NgConverted.{NgConverted}
use Rattle.pcap_file.proofs.Placing.{all_more_under, all_none, ends_failed, ends_full, ends_none, one_at_most}
use Rattle.pcap_file.proofs.run.placing.convert_blocks.Goals as goal

pub loop-converted-init : goal.loop-converted-init
loop-converted-init g c = record {
  so_far = all_none c.args.writer.now.header c.args.unplaced _ _ _ c.requires.blocks c.requires.packets c.requires.left_out;
  header = refl;
  valid = search rules;
  good = search rules;
  within = omega (arith, c.requires.blocks);
  packets = omega (arith, c.requires.packets);
  left_out = omega (arith, c.requires.left_out);
}

pub returns-in_err-convert_next-clause-run : goal.returns-in_err-convert_next-clause-run
returns-in_err-convert_next-clause-run g c =
    let p = err_from_is_err_and c.from_residual.result c.from_residual.ensures.1 in
    let now = c.loop-converted.invariant in
    let steps = c.in_err-convert_next.ensures.steps in
    rw (p.1, p.2) (inr (ends_failed c.args.writer.now.header c.args.unplaced _ _ _ _ c.args.most _ now.so_far _ _ _ steps.1 _ _ now.header c.loop-converted-test.true steps.0))

pub returns-in_err-convert_next-clause-most : goal.returns-in_err-convert_next-clause-most
returns-in_err-convert_next-clause-most g c =
    omega (arith, ap (λ (n : NgConverted). n.blocks) c.in_err-convert_next.ensures.steps.1, c.loop-converted.invariant.within)

pub returns-then-not-branch-clause-run : goal.returns-then-not-branch-clause-run
returns-then-not-branch-clause-run g c =
    let steps = rw c.if-not-branch.true at c.in_ok-convert_next.ensures.steps in
    inr (ends_none c.args.writer.now.header c.args.unplaced _ _ _ _ c.args.most _ c.loop-converted.invariant.so_far _ _ _ steps.2 steps.0 steps.1)

pub returns-then-not-branch-clause-most : goal.returns-then-not-branch-clause-most
returns-then-not-branch-clause-most g c =
    let steps = rw c.if-not-branch.true at c.in_ok-convert_next.ensures.steps in
    omega (arith, ap (λ (n : NgConverted). n.blocks) steps.2, c.loop-converted.invariant.within)

pub loop-converted-preserved : goal.loop-converted-preserved
loop-converted-preserved g c =
    let now = c.loop-converted.invariant in
    let next = rw c.if-not-branch.false at c.in_ok-convert_next.ensures.steps in
    let most = one_at_most next.turn in
    record {
      so_far = all_more_under c.args.writer.now.header c.args.unplaced _ now.header _ _ _ _ _ _ _ _ now.so_far next;
      header = c.in_ok-convert_next.ensures.header ∙ now.header;
      valid = rw c.in_ok-convert_next.ensures.header now.valid;
      good = next.goes.no_write_failed ∙ now.good;
      within = omega (arith, next.counts.blocks, c.loop-converted-test.true);
      packets = omega (arith, next.counts.packets, next.counts.blocks, most.0, now.packets);
      left_out = omega (arith, next.counts.left_out, next.counts.blocks, most.1, now.left_out);
    }

pub loop-converted-smaller : goal.loop-converted-smaller
loop-converted-smaller g c =
    let next = rw c.if-not-branch.false at c.in_ok-convert_next.ensures.steps in
    omega (arith, c.loop-converted-test.true, next.counts.blocks)

pub returns-clause-run : goal.returns-clause-run
returns-clause-run g c =
    let now = c.loop-converted.invariant in
    inr (ends_full c.args.writer.now.header c.args.unplaced _ _ _ _ c.args.most c.loop-converted.converted now.so_far (omega (arith, now.within, c.loop-converted-test.false)))
