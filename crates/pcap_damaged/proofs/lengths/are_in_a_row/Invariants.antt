use Rattle.pcap_classic.specs.Parser.{header_of}
use Rattle.pcap_damaged.specs.Lengths.{FollowByLength}
use Rattle.pcap_damaged.proofs.lengths.are_in_a_row.Given as goal

abbrev pub invariant-loop-more : goal.invariant-loop-more
invariant-loop-more l =
    let header = header_of l.parser in
    record {
      down : FollowByLength header l.count l.slice → FollowByLength header l.more l.left;
      up : FollowByLength header l.more l.left → FollowByLength header l.count l.slice;
    }

abbrev pub decreases-loop-more : goal.decreases-loop-more
decreases-loop-more l = l.more
