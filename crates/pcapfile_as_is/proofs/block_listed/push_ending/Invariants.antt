use Rattle.std.proofs.Common.{◌≡◌, ◌≤◌, ◌-◌, ◌++◌, length, map, take}
use Rattle.std.specs.List.{flat_map}
use Rattle.pcap_tolerant_blocks.specs.Flaws.{said_of}
use Rattle.pcapfile_as_is.specs.BlockLists.{said_mark}
use Rattle.pcapfile_as_is.proofs.block_listed.push_ending.Given as goal

abbrev pub invariant-loop-marked : goal.invariant-loop-marked
invariant-loop-marked l = record {
  inside : l.marked ≤ length l.flaws;
  text : l.line.items ≡ l.fn.line.items ++ flat_map said_mark (map said_of (take l.marked l.flaws));
}

abbrev pub decreases-loop-marked : goal.decreases-loop-marked
decreases-loop-marked l = length l.flaws - l.marked
