use Rattle.std.proofs.Common.{length}
use Rattle.pcap_classic.specs.PacketText.{packet_limit}
use Rattle.pcap_classic.specs.Packets.{packet_format}
use Rattle.pcap_parts.proofs.Passing.{Passing}
use Rattle.pcap_parts.proofs.skip.skip_in.Given as goal

abbrev pub invariant-loop-after : goal.invariant-loop-after
invariant-loop-after g l = record {
  passing : Passing (packet_format packet_limit g.B.ByteOrder.number_of l.r) tt tt l.slice l.after l.at_least l.items;
}

abbrev pub decreases-loop-after : goal.decreases-loop-after
decreases-loop-after g l = length l.after
