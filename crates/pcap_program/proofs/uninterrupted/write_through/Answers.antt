use Rattle.pcap_program.proofs.Kept.{kept_appended}
use Rattle.pcap_program.proofs.uninterrupted.write_through.Goals as goal

pub returns-in-Ok-clause-bytes : goal.returns-in-Ok-clause-bytes
returns-in-Ok-clause-bytes g c = kept_appended _ _ _ _ c.loop-turn.invariant c.in-Ok.ensures.bytes
