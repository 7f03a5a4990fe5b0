use Rattle.pcap_tolerant_captures.specs.Resync.{FrameRow}
use Rattle.pcap_tolerant_captures.proofs.resync.frames_stand.Given as goal

abbrev pub invariant-loop-more : goal.invariant-loop-more
invariant-loop-more l = record {
  down : FrameRow l.fn.order l.k l.slice → FrameRow l.order_here l.more l.left;
  up : FrameRow l.order_here l.more l.left → FrameRow l.fn.order l.k l.slice;
}

abbrev pub decreases-loop-more : goal.decreases-loop-more
decreases-loop-more l = l.more
