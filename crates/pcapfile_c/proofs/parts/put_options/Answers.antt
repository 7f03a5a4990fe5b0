use Rattle.pcapfile_c.proofs.PutParts.{text_same}
use Rattle.pcapfile_c.proofs.parts.put_options.Goals as goal

pub returns-in-Big : goal.returns-in-Big
returns-in-Big c = rw c.in-Big.is (text_same _ _ _ _ _ _ _ c.put_options_in.ensures)

pub returns-in-Little : goal.returns-in-Little
returns-in-Little c = rw c.in-Little.is (text_same _ _ _ _ _ _ _ c.put_options_in-in-Little.ensures)
