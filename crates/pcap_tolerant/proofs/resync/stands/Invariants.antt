use Rattle.pcap_classic.specs.Parser.{header_of}
use Rattle.pcap_tolerant.specs.Resync.{PacketRow}
use Rattle.pcap_tolerant.proofs.resync.stands.Given as goal

abbrev pub invariant-loop-more : goal.invariant-loop-more
invariant-loop-more l =
    let header = header_of l.parser in
    record {
      down : PacketRow header l.k l.slice → PacketRow header l.more l.left;
      up : PacketRow header l.more l.left → PacketRow header l.k l.slice;
    }

abbrev pub decreases-loop-more : goal.decreases-loop-more
decreases-loop-more l = l.more
