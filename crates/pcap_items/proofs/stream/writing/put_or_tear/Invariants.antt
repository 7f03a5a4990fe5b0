use Rattle.std.proofs.Common.{◌≡◌, length}
use Rattle.pcap_items.specs.Writing.{Writes}
use Rattle.pcap_items.proofs.stream.writing.put_or_tear.Given as goal

abbrev pub invariant-loop-rest : goal.invariant-loop-rest
invariant-loop-rest g l = record {
  so_far : Writes l.bytes l.rest (g.W.Write.contents l.fn.writer) (g.W.Write.contents l.writer);
  same : l.has_failed ≡ l.fn.has_failed;
}

abbrev pub decreases-loop-rest : goal.decreases-loop-rest
decreases-loop-rest g l = length l.rest
