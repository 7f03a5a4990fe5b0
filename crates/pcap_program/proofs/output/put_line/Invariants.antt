use Rattle.std.proofs.Common.{length}
use Rattle.pcap_items.specs.Writing.{Writes}
use Rattle.pcap_program.proofs.output.put_line.Given as goal

abbrev pub invariant-loop-rest : goal.invariant-loop-rest
invariant-loop-rest g l = Writes l.line l.rest (g.W.Write.contents l.fn.output) (g.W.Write.contents l.output)

abbrev pub decreases-loop-rest : goal.decreases-loop-rest
decreases-loop-rest g l = length l.rest
