use Rattle.std.proofs.Common.{arith}
use Rattle.pcap_items.proofs.StreamBytes.{came_more}
use Rattle.pcap_items.proofs.stream.reading.fill_array.Goals as goal

pub loop-at-preserved : goal.loop-at-preserved
loop-at-preserved g c = record {
  within = omega (arith, c.in-Ok.ensures.fits, c.read_at.auto.bytes, c.loop-at-test.true);
  came = came_more _ _ _ _ _ c.loop-at.at c.in-Ok.n c.loop-at.invariant.came c.in-Ok.ensures.front c.in-Ok.ensures.came;
  same = c.loop-at.invariant.same;
}
