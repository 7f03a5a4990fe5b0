use Rattle.std.proofs.Common.{◌≡◌, ◌++◌, ◌-◌, ◌^◌, List, length}
use Rattle.pcapfile_cut.specs.BlockCuts.{Lent, bytes_in, place_of}
use Rattle.pcapfile_cut.specs.JoinedBlocks.{ReadsLead}
use Rattle.pcapfile_cut.proofs.blocks.BlockCutter.read_lead.Given as goal

abbrev pub invariant-loop-blocks : goal.invariant-loop-blocks
invariant-loop-blocks g l = record {
  read : List Lent;
  reads : ReadsLead l.in_force (place_of g.R.Read.remaining l.fn.self) (place_of g.R.Read.remaining l.self) l.fn.outcome l.outcome read;
  lead : l.lead.items ≡ (place_of g.R.Read.remaining l.fn.self).opening ++ bytes_in read;
  count : length read ≡ l.blocks;
}

abbrev pub decreases-loop-blocks : goal.decreases-loop-blocks
decreases-loop-blocks g l = 2 ^ 64 - l.blocks
