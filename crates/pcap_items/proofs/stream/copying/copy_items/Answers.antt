use Rattle.std.proofs.Common.{◌+◌, arith}
use Rattle.std.proofs.lemmas.Result.{err_from_is_err_and}
use Rattle.pcap_items.proofs.Copying.{to_all, to_fails}
use Rattle.pcap_items.proofs.stream.copying.copy_items.Goals as goal

pub returns-in_err-copy_next : goal.returns-in_err-copy_next
returns-in_err-copy_next g c =
    let p = err_from_is_err_and c.from_residual.result c.from_residual.ensures.1 in
    let n = c.loop-tally.tally.items in
    rw (p.1, p.2) (to_fails (g.A.Ahead.format c.args.ahead.now) (g.A.Ahead.written c.args.ahead.now) c.requires.writing c.requires.lawful (g.A.Ahead.state c.args.place.now) (g.A.Ahead.state c.loop-tally.place) _ _ _ _ _ _ n c.args.most (n + 1) c.copy_next.new.tally c.in_err-copy_next.field-0.0
    c.loop-tally.invariant.so_far c.in_err-copy_next.ensures.steps (omega (arith, c.loop-tally-test.true)))

pub loop-tally-preserved : goal.loop-tally-preserved
loop-tally-preserved g c =
    let steps = rw c.if-not-branch.false at c.in_ok-copy_next.ensures.steps in
    record {
      so_far = to_all (g.A.Ahead.format c.args.ahead.now) (g.A.Ahead.written c.args.ahead.now) c.requires.writing c.requires.lawful (g.A.Ahead.state c.args.place.now) (g.A.Ahead.state c.loop-tally.place) (g.A.Ahead.state c.copy_next.new.place) _ _ _ _ _ _ 0 c.loop-tally.tally.items c.copy_next.new.tally.items c.loop-tally.invariant.so_far steps.0;
      between = c.in_ok-copy_next.ensures.between;
      within = omega (arith, steps.1, c.loop-tally-test.true);
      read = steps.2;
      wrote = steps.3;
    }
