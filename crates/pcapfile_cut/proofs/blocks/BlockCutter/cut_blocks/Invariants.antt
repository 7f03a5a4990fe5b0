use Rattle.std.proofs.Common.{◌≡◌, ◌-◌, ◌^◌, List, length, false}
use Rattle.pcapfile_cut.specs.BlockCuts.{Lent, PutsBlocks, place_of}
use Rattle.pcapfile_cut.proofs.blocks.BlockCutter.cut_blocks.Given as goal

abbrev pub invariant-loop-blocks : goal.invariant-loop-blocks
invariant-loop-blocks g l = record {
  written : List Lent;
  puts : PutsBlocks l.wanted (place_of g.R.Read.remaining l.fn.self) (place_of g.R.Read.remaining l.self) (g.W.Write.contents l.fn.output) (g.W.Write.contents l.output) l.fn.outcome l.outcome written;
  wrote : l.outcome.write_failed ≡ false;
  count : length written ≡ l.blocks;
}

abbrev pub decreases-loop-blocks : goal.decreases-loop-blocks
decreases-loop-blocks g l = 2 ^ 64 - l.blocks
