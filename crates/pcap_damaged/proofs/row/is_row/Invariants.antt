use Rattle.pcap_classic.specs.Parser.{header_of}
use Rattle.pcap_damaged.specs.Plausible.{PlausibleRow}
use Rattle.pcap_damaged.proofs.row.is_row.Given as goal

abbrev pub invariant-loop-more : goal.invariant-loop-more
invariant-loop-more l =
    let header = header_of l.parser in
    record {
      down : PlausibleRow header l.fn.time l.k l.slice → PlausibleRow header l.time_here l.more l.left;
      up : PlausibleRow header l.time_here l.more l.left → PlausibleRow header l.fn.time l.k l.slice;
    }

abbrev pub decreases-loop-more : goal.decreases-loop-more
decreases-loop-more l = l.more
