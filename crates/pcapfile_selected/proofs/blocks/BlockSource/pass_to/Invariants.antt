use Rattle.std.proofs.Common.{◌≡◌, ◌<◌, ◌-◌, ◌^◌, ◌⊎◌, List, length}
use Rattle.pcapfile_cut.specs.BlockCuts.{Between, Lent, packets_in}
use Rattle.pcapfile_selected.specs.SelectedBlocks.{ChoosesSame, CountsBlocks, NotesAll, place_of}
use Rattle.pcapfile_selected.proofs.blocks.BlockSource.pass_to.Given as goal

abbrev pub invariant-loop-blocks : goal.invariant-loop-blocks
invariant-loop-blocks g l = record {
  passed : List Lent;
  between : Between (place_of g.R.Read.remaining l.fn.self) (place_of g.R.Read.remaining l.self) passed;
  counts : CountsBlocks passed l.fn.outcome l.outcome;
  below : (packets_in passed ≡ 0) ⊎ (l.outcome.packets < l.first);
  first_time : NotesAll l.fn.choosing.asked passed l.fn.choosing.first l.choosing.first;
  same : ChoosesSame l.fn.choosing l.choosing;
  count : length passed ≡ l.blocks;
}

abbrev pub decreases-loop-blocks : goal.decreases-loop-blocks
decreases-loop-blocks g l = 2 ^ 64 - l.blocks
