use Rattle.std.proofs.Common.{◌≡◌, ◌≤◌, ◌-◌, [], false}
use Rattle.pcap_items.specs.Held.{held_bytes}
use Rattle.pcap_classic.specs.PacketText.{packet_limit}
use Rattle.pcap_classic.specs.Packets.{format_under}
use Rattle.pcapfile_info.specs.Describing.{SameDescribed}
use Rattle.pcapfile_info.specs.Sights.{IsPacketSight}
use Rattle.pcapfile_info.specs.Telling.{KeepsTotals, Telling}
use Rattle.pcapfile_info.specs.Totals.{AllAre}
use Rattle.pcapfile_info.proofs.passing.pass_packets.Given as goal

abbrev pub invariant-loop-progress : goal.invariant-loop-progress
invariant-loop-progress g l = record {
  telling : Telling (format_under packet_limit l.header) tt IsPacketSight 1 (KeepsTotals AllAre) tt (g.R.Read.remaining l.fn.input) (g.R.Read.remaining l.input) l.fn.progress l.progress l.progress.items;
  between : held_bytes l.held ≡ [];
  unfailed : l.read_failed ≡ false;
  within : l.progress.items ≤ 18446744073709551614;
  described : SameDescribed l.fn.progress l.progress;
}

abbrev pub decreases-loop-progress : goal.decreases-loop-progress
decreases-loop-progress g l = 18446744073709551614 - l.progress.items
