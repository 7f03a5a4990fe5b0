use Rattle.std.proofs.Common.{codes, refl}
use Rattle.pcapfile_run.proofs.lines.put_packet_time.Goals as goal

pub returns-in-None-clause-text : goal.returns-in-None-clause-text
returns-in-None-clause-text c = (codes "-", rw c.in-None.is refl, c.put_byte.ensures.text)
