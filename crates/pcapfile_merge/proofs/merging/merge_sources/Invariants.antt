use Rattle.std.proofs.Common.{◌≤◌, ◌-◌}
use Rattle.pcapfile_merge.specs.Merging.{output_of}
use Rattle.pcapfile_merge.proofs.Steps.{Going}
use Rattle.pcapfile_merge.proofs.merging.merge_sources.Given as goal

abbrev pub invariant-loop-packets : goal.invariant-loop-packets
invariant-loop-packets g l = record {
  so_far : Going (g.R.Read.remaining) l.order l.fn.sources l.sources (output_of (g.W.Write.contents l.fn.writer) l.fn.interfaces) (output_of (g.W.Write.contents l.writer) l.interfaces) l.packets;
  within : l.packets ≤ l.most;
}

abbrev pub decreases-loop-packets : goal.decreases-loop-packets
decreases-loop-packets g l = l.most - l.packets
