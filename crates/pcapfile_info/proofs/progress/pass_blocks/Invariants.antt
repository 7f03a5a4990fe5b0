use Rattle.std.proofs.Common.{◌≡◌, ◌≤◌, ◌-◌, false}
use Rattle.pcap_ng.specs.Blocks.{block_format}
use Rattle.pcap_ng.specs.Reader.{is_done, state_of, stream_of}
use Rattle.pcapfile_info.specs.KeptBlocks.{KeepsBlocks}
use Rattle.pcapfile_info.specs.InForce.{AreInForce}
use Rattle.pcapfile_info.specs.Sights.{IsBlockSight}
use Rattle.pcapfile_info.specs.Telling.{Telling}
use Rattle.pcapfile_info.proofs.progress.pass_blocks.Given as goal

abbrev pub invariant-loop-progress : goal.invariant-loop-progress
invariant-loop-progress g l = record {
  telling : Telling block_format (state_of l.fn.reader) IsBlockSight 0 KeepsBlocks (state_of l.reader) (g.T.Read.remaining (stream_of l.fn.reader)) (g.T.Read.remaining (stream_of l.reader)) l.fn.progress l.progress l.progress.items;
  clocks : AreInForce l.clocks (state_of l.reader);
  ready : is_done l.reader ≡ false;
  unfailed : l.read_failed ≡ false;
  within : l.progress.items ≤ 18446744073709551614;
}

abbrev pub decreases-loop-progress : goal.decreases-loop-progress
decreases-loop-progress g l = 18446744073709551614 - l.progress.items
