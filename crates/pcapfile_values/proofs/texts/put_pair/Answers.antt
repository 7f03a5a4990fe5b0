use Rattle.pcapfile_values.proofs.Puts.{puts_both}
use Rattle.pcapfile_values.proofs.texts.put_pair.Goals as goal

pub returns-clause-put : goal.returns-clause-put
returns-clause-put g c = puts_both 2 (g.met.B.ByteOrder.length_bytes 2 c.args.first) c.put_u16-second_at.ensures.behind c.put_u16-second_at.ensures.put c.put_u16.ensures.put
