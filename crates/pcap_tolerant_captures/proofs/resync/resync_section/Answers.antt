use Rattle.std.proofs.Common.{arith}
use Rattle.pcap_core.specs.declared.common.Endianness.TheVariants as orders
use Rattle.pcap_tolerant_captures.specs.Resync.{HeaderStands}
use Rattle.pcap_tolerant_captures.proofs.FrameRows.{none_further}
use Rattle.pcap_tolerant_captures.proofs.resync.resync_section.Goals as goal

pub loop-place-preserved : goal.loop-place-preserved
loop-place-preserved c = record {
  inside = omega (arith, c.loop-place-test.true);
  none = none_further (HeaderStands orders.Big) c.args.slice.now c.loop-place.place c.loop-place.invariant.none (λ header. let is = c.header_stands.ensures.1 header in absurd cc);
}
