use Rattle.std.proofs.Common.{◌≡◌, ◌-◌, ◌^◌, List, length}
use Rattle.pcapfile_cut.specs.BlockCuts.{Between, Lent}
use Rattle.pcapfile_selected.specs.SelectedBlocks.{place_of}
use Rattle.pcapfile_selected.specs.SpanBlocks.{PutsTakenAll, span_run}
use Rattle.pcapfile_selected.proofs.blocks.BlockSource.put_all_taken.Given as goal

abbrev pub invariant-loop-blocks : goal.invariant-loop-blocks
invariant-loop-blocks g l = record {
  put : List Lent;
  between : Between (place_of g.R.Read.remaining l.fn.self) (place_of g.R.Read.remaining l.self) put;
  puts : PutsTakenAll (span_run l.fn.spans (g.W.Write.contents l.fn.output) l.fn.outcome) put (span_run l.spans (g.W.Write.contents l.output) l.outcome);
  count : length put ≡ l.blocks;
}

abbrev pub decreases-loop-blocks : goal.decreases-loop-blocks
decreases-loop-blocks g l = 2 ^ 64 - l.blocks
