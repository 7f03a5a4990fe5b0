use Rattle.std.proofs.Common.{◌≤◌, ◌-◌, length}
use Rattle.pcap_ng.specs.Blocks.{block_format}
use Rattle.pcap_ng.specs.State.{State}
use Rattle.pcapfile_info.specs.Describing.{SameDescribed}
use Rattle.pcapfile_info.specs.KeptBlocks.{KeepsBlocks}
use Rattle.pcapfile_info.specs.InForce.{AreInForce}
use Rattle.pcapfile_info.specs.Sights.{IsBlockSight}
use Rattle.pcapfile_info.proofs.Turns.{Walked}
use Rattle.pcapfile_info.proofs.progress.ClocksPasses.pass.Given as goal

abbrev pub invariant-loop-progress : goal.invariant-loop-progress
invariant-loop-progress l = record {
  walked : (q : State) → AreInForce l.self q → Walked block_format IsBlockSight 0 KeepsBlocks q q l.shown l.rest l.fn.progress l.progress;
  shorter : length l.rest ≤ length l.shown;
  more : l.fn.progress.items ≤ l.progress.items;
  within : l.progress.items ≤ 18446744073709551614;
  described : SameDescribed l.fn.progress l.progress;
}

abbrev pub decreases-loop-progress : goal.decreases-loop-progress
decreases-loop-progress l = 18446744073709551614 - l.progress.items
