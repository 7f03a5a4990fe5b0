use Rattle.std.proofs.Common.{◌∙◌, sym}
use Rattle.pcapfile_merge.proofs.LittleOptions.{walked_all, walked_more}
use Rattle.pcapfile_merge.proofs.little.after_options.Goals as goal

pub loop-size-preserved : goal.loop-size-preserved
loop-size-preserved c =
    let so_far = c.loop-size.invariant in
    let next = c.option_size-size-in-loop-size.ensures in
    record {
      walked = walked_more _ _ _ _ (record { some = c.loop-size-test.true; within = so_far.within; is = so_far.size; behind = c.behind-left.ensures }) so_far.walked;
      size = next.size;
      within = next.within;
    }

pub returns : goal.returns
returns c = walked_all _ _ (sym c.loop-size.invariant.size ∙ c.loop-size-test.false) c.loop-size.invariant.walked
