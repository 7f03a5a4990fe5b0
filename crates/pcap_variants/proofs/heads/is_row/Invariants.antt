use Rattle.std.proofs.Common.{None}
use Rattle.pcap_variants.specs.Rows.{Row}
use Rattle.pcap_variants.proofs.heads.is_row.Given as goal

abbrev pub invariant-loop-more : goal.invariant-loop-more
invariant-loop-more l = record {
  down : Row l.order l.further None l.k l.slice → Row l.order l.further l.time l.more l.left;
  up : Row l.order l.further l.time l.more l.left → Row l.order l.further None l.k l.slice;
}

abbrev pub decreases-loop-more : goal.decreases-loop-more
decreases-loop-more l = l.more
