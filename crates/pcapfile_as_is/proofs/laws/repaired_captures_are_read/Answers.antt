use Rattle.pcapfile_as_is.proofs.Whole.{repaired_read}
use Rattle.pcapfile_as_is.proofs.laws.repaired_captures_are_read.Goals as goal

pub returns : goal.returns
returns c = repaired_read
