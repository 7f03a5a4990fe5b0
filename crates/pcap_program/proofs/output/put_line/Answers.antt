use Rattle.std.proofs.lemmas.List.{take_rest}
use Rattle.pcap_items.proofs.Writing.{writes_more}
use Rattle.pcap_program.proofs.output.put_line.Goals as goal

pub loop-rest-preserved : goal.loop-rest-preserved
loop-rest-preserved g c = rw take_rest (writes_more c.args.line.now c.loop-rest.rest.now _ _ _ c.in-Ok.n c.loop-rest.invariant c.in-Ok.ensures.bytes)
