use Rattle.std.proofs.Common.{◌≡◌, ◌≤◌, ◌-◌, List, length}
use Rattle.pcap_items.specs.Format.{Texts}
use Rattle.pcap_classic.specs.Packets.{format_under}
use Rattle.pcap_classic.specs.PacketText.{Captured, packet_limit}
use Rattle.pcap_classic.proofs.run.stretch.whole_packets.Given as goal

abbrev pub invariant-loop-packets : goal.invariant-loop-packets
invariant-loop-packets l = record {
  taken : List Captured;
  count : length taken ≡ l.packets;
  texts : Texts (format_under packet_limit l.header) tt taken l.bytes l.rest;
  within : l.packets ≤ l.most;
}

abbrev pub decreases-loop-packets : goal.decreases-loop-packets
decreases-loop-packets l = l.most - l.packets
