use Rattle.std.proofs.Common.{◌∙◌, [], ◌∷◌, ◌++◌, arith, refl, length-append}
use Rattle.pcapfile_cut.proofs.BlockCuts.{puts_more, puts_none}
use Rattle.pcapfile_cut.proofs.blocks.BlockCutter.cut_blocks.Goals as goal

pub loop-blocks-init : goal.loop-blocks-init
loop-blocks-init g c = record {
  written = [];
  puts = puts_none c.args.wanted _ _ c.args.outcome.now c.requires.within c.requires.within_bytes;
  wrote = c.requires.no_write_failed;
  count = refl;
}

pub loop-blocks-preserved : goal.loop-blocks-preserved
loop-blocks-preserved g c =
    let i = c.loop-blocks.invariant in
    let one = rw c.if-not-branch.false at c.in_ok-cut_next.ensures in
    record {
      written = i.written ++ one.block ∷ [];
      puts = puts_more c.args.wanted _ _ _ _ _ _ c.args.outcome.now c.loop-blocks.outcome c.cut_next.new.outcome i.written i.puts one;
      wrote = one.counts.write_failed ∙ i.wrote;
      count = omega (arith, length-append i.written (one.block ∷ []), i.count);
    }
