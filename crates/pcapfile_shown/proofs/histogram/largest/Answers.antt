use Rattle.std.proofs.Common.{◌<◌, length, arith}
use Rattle.pcapfile_shown.proofs.Largest.{all_bound, bound_more, largest_more}
use Rattle.pcapfile_shown.proofs.histogram.largest.Goals as goal

pub loop-count-preserved : goal.loop-count-preserved
loop-count-preserved c =
    let l = c.loop-count in
    let xs = c.args.counts.now in
    let there : l.count-index < length xs = omega (arith, c.loop-count-test.true, l.auto.count-index-end) in
    record {
      bound = bound_more xs l.count-index l.largest c.max-largest.result there l.invariant.bound c.max-largest.ensures;
      is = largest_more xs l.count-index l.largest c.max-largest.result there l.invariant.is c.max-largest.ensures;
    }

pub returns-clause-bound : goal.returns-clause-bound
returns-clause-bound c =
    let l = c.loop-count in
    all_bound c.args.counts.now l.count-index l.largest (omega (arith, c.loop-count-test.false, l.auto.count-index-end)) l.invariant.bound
