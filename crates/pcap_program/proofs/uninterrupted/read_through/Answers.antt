use Rattle.pcap_program.proofs.Kept.{kept_taken}
use Rattle.pcap_program.proofs.uninterrupted.read_through.Goals as goal

pub returns-in-Ok-clause-bytes : goal.returns-in-Ok-clause-bytes
returns-in-Ok-clause-bytes g c = (kept_taken _ _ _ _ c.loop-turn.invariant c.in-Ok.ensures.bytes.0, c.in-Ok.ensures.bytes.1)
