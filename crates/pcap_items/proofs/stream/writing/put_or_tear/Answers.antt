use Rattle.std.proofs.lemmas.List.{take_rest}
use Rattle.pcap_items.proofs.Writing.{writes_more}
use Rattle.pcap_items.proofs.stream.writing.put_or_tear.Goals as goal

pub loop-rest-preserved : goal.loop-rest-preserved
loop-rest-preserved g c = record {
  so_far = rw take_rest (writes_more c.args.bytes.now c.loop-rest.rest.now _ _ _ c.in-Ok.n c.loop-rest.invariant.so_far c.in-Ok.ensures.bytes);
  same = c.loop-rest.invariant.same;
}
