use Rattle.pcapfile_selected.proofs.LeastFirst.{least_found, least_none, least_turn}
use Rattle.pcapfile_selected.proofs.selecting.least_first.Goals as goal

pub loop-place-preserved : goal.loop-place-preserved
loop-place-preserved c = least_turn c.args.ranges.now c.loop-place.place _ c.loop-place.least c.lesser.result c.loop-place-test.true c.loop-place.invariant c.lesser.ensures

pub returns-in-None : goal.returns-in-None
returns-in-None c = least_none c.args.ranges.now c.loop-place.place c.loop-place-test.false (rw c.in-None.is at c.loop-place.invariant)

pub returns-in-Some : goal.returns-in-Some
returns-in-Some c = least_found c.args.ranges.now c.loop-place.place c.in-Some.least c.loop-place-test.false (rw c.in-Some.is at c.loop-place.invariant)
