use Rattle.std.proofs.Common.{arith}
use Rattle.pcap_tolerant_captures.specs.Resync.{BlocksStand}
use Rattle.pcap_tolerant_captures.proofs.FrameRows.{none_further}
use Rattle.pcap_tolerant_captures.proofs.resync.resync_in.Goals as goal

pub loop-at-preserved : goal.loop-at-preserved
loop-at-preserved c = record {
  inside = omega (arith, c.loop-at-test.true);
  none = none_further (BlocksStand c.args.order c.args.k) c.args.slice.now c.loop-at.at c.loop-at.invariant.none (λ stands. let is = c.stands.ensures.1 stands in absurd cc);
}
