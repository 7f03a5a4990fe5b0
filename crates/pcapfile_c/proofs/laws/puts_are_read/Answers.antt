use Rattle.pcapfile_c.proofs.PutsAgain.{puts_read}
use Rattle.pcapfile_c.proofs.laws.puts_are_read.Goals as goal

pub returns : goal.returns
returns c = puts_read
