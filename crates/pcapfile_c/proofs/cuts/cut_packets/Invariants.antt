use Rattle.std.proofs.Common.{◌≡◌, ◌≤◌, length, take, drop}
use Rattle.pcap_classic.specs.PacketText.{packet_limit}
use Rattle.pcap_classic.specs.Packets.{format_under}
use Rattle.pcap_classic.specs.Parser.{header_of}
use Rattle.pcap_parts.proofs.Parted.{PartedSoFar}
use Rattle.pcapfile_c.proofs.cuts.cut_packets.Given as goal

abbrev pub invariant-loop-wanted : goal.invariant-loop-wanted
invariant-loop-wanted l = record {
  so_far : PartedSoFar (format_under packet_limit (header_of l.parser)) tt l.slice l.total l.parting l.left l.before (take l.count l.cuts);
  filled : l.count ≤ length l.cuts;
  long : length l.cuts ≡ length l.fn.cuts;
  others : drop l.count l.cuts ≡ drop l.count l.fn.cuts;
}

abbrev pub decreases-loop-wanted : goal.decreases-loop-wanted
decreases-loop-wanted l = length l.left
