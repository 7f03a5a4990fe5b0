use Rattle.std.proofs.Common.{arith}
use Rattle.std.proofs.lemmas.List.{length-take}
use Rattle.pcapfile_selected.specs.Ahead.{held_in}
use Rattle.pcapfile_selected.proofs.ReadAhead.{ahead_all, ahead_full, ahead_more}
use Rattle.pcapfile_selected.proofs.ahead.Ahead.read_ahead.Goals as goal

pub returns-then-not-branch-clause-ahead : goal.returns-then-not-branch-clause-ahead
returns-then-not-branch-clause-ahead g c =
    let now = c.read_more.new.self in
    ahead_all (held_in c.args.self.now) (held_in now) 16 _ (g.R.Read.remaining now.input)
    (ahead_more _ (held_in c.loop-self.self) _ _ _ _ c.loop-self.invariant.ahead c.in_ok-read_more.ensures.reads)
    (omega (arith, length-take now.len now.held, now.within)) (rw c.if-not-branch.true at c.in_ok-read_more.ensures.more)

pub returns-clause-ahead : goal.returns-clause-ahead
returns-clause-ahead g c =
    let now = c.loop-self.self in
    ahead_full (held_in c.args.self.now) (held_in now) 16 _ _ c.loop-self.invariant.ahead
    (omega (arith, length-take now.len now.held, now.within, c.loop-self.invariant.array, c.loop-self-test.false))
