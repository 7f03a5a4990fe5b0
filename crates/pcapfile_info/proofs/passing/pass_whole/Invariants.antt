use Rattle.std.proofs.Common.{◌≤◌, ◌-◌}
use Rattle.pcap_classic.specs.PacketText.{packet_limit}
use Rattle.pcap_classic.specs.Packets.{packet_format}
use Rattle.pcapfile_info.specs.Describing.{SameDescribed}
use Rattle.pcapfile_info.specs.Sights.{IsPacketSight}
use Rattle.pcapfile_info.specs.Telling.{KeepsTotals}
use Rattle.pcapfile_info.specs.Totals.{AllAre}
use Rattle.pcapfile_info.proofs.Turns.{Walked}
use Rattle.pcapfile_info.proofs.passing.pass_whole.Given as goal

abbrev pub invariant-loop-progress : goal.invariant-loop-progress
invariant-loop-progress g l = record {
  walked : Walked (packet_format packet_limit g.B.ByteOrder.number_of l.ts_resolution) IsPacketSight 1 (KeepsTotals AllAre) tt tt l.shown l.rest l.fn.progress l.progress;
  more : l.fn.progress.items ≤ l.progress.items;
  within : l.progress.items ≤ 18446744073709551614;
  described : SameDescribed l.fn.progress l.progress;
}

abbrev pub decreases-loop-progress : goal.decreases-loop-progress
decreases-loop-progress g l = 18446744073709551614 - l.progress.items
