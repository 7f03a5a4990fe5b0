use Rattle.pcapfile_merge.proofs.Best.{best_all, best_place, best_turn}
use Rattle.pcapfile_merge.proofs.choice.choose.Goals as goal

pub loop-place-preserved : goal.loop-place-preserved
loop-place-preserved g c =
    best_turn c.args.order c.args.sources.now c.loop-place.place c.index-sources-place.result c.loop-place.best c.best_with-best.result c.next.result.now c.loop-place-test.true c.index-sources-place.is c.next.ensures c.loop-place.invariant c.best_with-best.ensures

pub returns-in-None : goal.returns-in-None
returns-in-None g c =
    rw c.in-None.is at (best_all c.args.order c.args.sources.now c.loop-place.place c.loop-place.best c.loop-place-test.false c.loop-place.invariant)

pub returns-in-Some : goal.returns-in-Some
returns-in-Some g c =
    best_place c.args.order c.args.sources.now c.in-Some.best (rw c.in-Some.is at (best_all c.args.order c.args.sources.now c.loop-place.place c.loop-place.best c.loop-place-test.false c.loop-place.invariant))
