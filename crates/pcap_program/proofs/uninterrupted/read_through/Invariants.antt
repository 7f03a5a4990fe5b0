use Rattle.std.specs.Io.KnownBytes.{Keeps}
use Rattle.pcap_program.proofs.uninterrupted.read_through.Given as goal

abbrev pub invariant-loop-turn : goal.invariant-loop-turn
invariant-loop-turn g l = Keeps (g.R.Read.remaining l.fn.stream) (g.R.Read.remaining l.stream)
