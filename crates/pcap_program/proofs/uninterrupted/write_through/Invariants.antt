use Rattle.std.specs.Io.KnownBytes.{Keeps}
use Rattle.pcap_program.proofs.uninterrupted.write_through.Given as goal

abbrev pub invariant-loop-turn : goal.invariant-loop-turn
invariant-loop-turn g l = Keeps (g.W.Write.contents l.fn.stream) (g.W.Write.contents l.stream)
