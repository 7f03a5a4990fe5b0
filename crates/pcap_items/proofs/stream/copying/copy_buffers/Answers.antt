use Rattle.std.proofs.Common.{◌+◌, arith, refl, inl, inr}
use Rattle.std.proofs.lemmas.Result.{err_from_is_err_and}
use Rattle.std.proofs.KnownBytes.{Keeps-refl}
use Rattle.pcap_items.proofs.Copying.{to_all, to_ends, to_fails}
use Rattle.pcap_items.proofs.stream.copying.copy_buffers.Goals as goal

pub returns-in_err-copy_shown : goal.returns-in_err-copy_shown
returns-in_err-copy_shown g c =
    let p = err_from_is_err_and c.from_residual.result c.from_residual.ensures.1 in
    rw (p.1, p.2) (to_fails (g.A.Ahead.format c.args.ahead.now) (g.A.Ahead.written c.args.ahead.now) c.requires.writing c.requires.lawful (g.A.Ahead.state c.args.place.now) (g.A.Ahead.state c.loop-tally.place) _ _ _ _ _ _ c.loop-tally.tally.items c.args.most c.args.most c.copy_shown.new.tally c.in_err-copy_shown.field-0.0
    c.loop-tally.invariant.so_far c.in_err-copy_shown.ensures (omega arith))

pub returns-then-tally-most : goal.returns-then-tally-most
returns-then-tally-most g c =
    let format = g.A.Ahead.format c.args.ahead.now in
    let written = g.A.Ahead.written c.args.ahead.now in
    let start = g.A.Ahead.state c.args.place.now in
    let here = g.A.Ahead.state c.loop-tally.place in
    let m = c.copy_shown.new.tally.items in
    let shown = rw c.if-not-branch.false at c.in_ok-copy_shown.ensures in
    let so_far = to_all format written c.requires.writing c.requires.lawful start here here _ _ _ _ _ _ 0 c.loop-tally.tally.items m c.loop-tally.invariant.so_far shown.0 in
    to_ends format written c.requires.writing start here _ _ _ _ _ _ m c.args.most c.copy_shown.new.tally so_far refl shown.1
    (record { fine = refl; no_read_failed = shown.2; no_write_failed = shown.3; taken = Keeps-refl _; out = Keeps-refl _ }) (inr c.if-tally-most.true)

pub returns-in_err-copy_next : goal.returns-in_err-copy_next
returns-in_err-copy_next g c =
    let p = err_from_is_err_and c.from_residual-in_err-copy_next.result c.from_residual-in_err-copy_next.ensures.1 in
    let format = g.A.Ahead.format c.args.ahead.now in
    let written = g.A.Ahead.written c.args.ahead.now in
    let start = g.A.Ahead.state c.args.place.now in
    let here = g.A.Ahead.state c.loop-tally.place in
    let m = c.copy_shown.new.tally.items in
    let shown = rw c.if-not-branch.false at c.in_ok-copy_shown.ensures in
    let so_far = to_all format written c.requires.writing c.requires.lawful start here here _ _ _ _ _ _ 0 c.loop-tally.tally.items m c.loop-tally.invariant.so_far shown.0 in
    rw (p.1, p.2) (to_fails format written c.requires.writing c.requires.lawful start here _ _ _ _ _ _ m c.args.most (m + 1) c.copy_next.new.tally c.in_err-copy_next.field-0.0 so_far c.in_err-copy_next.ensures.steps (omega (arith, shown.1, c.if-tally-most.false)))

pub returns-then-not-branch-2 : goal.returns-then-not-branch-2
returns-then-not-branch-2 g c =
    let format = g.A.Ahead.format c.args.ahead.now in
    let written = g.A.Ahead.written c.args.ahead.now in
    let start = g.A.Ahead.state c.args.place.now in
    let here = g.A.Ahead.state c.loop-tally.place in
    let m = c.copy_shown.new.tally.items in
    let shown = rw c.if-not-branch.false at c.in_ok-copy_shown.ensures in
    let so_far = to_all format written c.requires.writing c.requires.lawful start here here _ _ _ _ _ _ 0 c.loop-tally.tally.items m c.loop-tally.invariant.so_far shown.0 in
    let steps = rw c.if-not-branch-2.true at c.in_ok-copy_next.ensures.steps in
    to_ends format written c.requires.writing start here _ _ _ _ _ _ m c.args.most c.copy_next.new.tally so_far steps.0 shown.1 steps.2 (inl steps.1)

pub loop-tally-preserved : goal.loop-tally-preserved
loop-tally-preserved g c =
    let format = g.A.Ahead.format c.args.ahead.now in
    let written = g.A.Ahead.written c.args.ahead.now in
    let start = g.A.Ahead.state c.args.place.now in
    let here = g.A.Ahead.state c.loop-tally.place in
    let m = c.copy_shown.new.tally.items in
    let shown = rw c.if-not-branch.false at c.in_ok-copy_shown.ensures in
    let so_far = to_all format written c.requires.writing c.requires.lawful start here here _ _ _ _ _ _ 0 c.loop-tally.tally.items m c.loop-tally.invariant.so_far shown.0 in
    let steps = rw c.if-not-branch-2.false at c.in_ok-copy_next.ensures.steps in
    record {
      so_far = to_all format written c.requires.writing c.requires.lawful start here (g.A.Ahead.state c.copy_next.new.place) _ _ _ _ _ _ 0 m c.copy_next.new.tally.items so_far steps.0;
      between = c.in_ok-copy_next.ensures.between;
      within = omega (arith, steps.1, shown.1, c.if-tally-most.false);
      read = steps.2;
      wrote = steps.3;
    }
