use Rattle.pcapfile_as_is.proofs.Whole.{repaired_whole}
use Rattle.pcapfile_as_is.proofs.laws.repaired_packets_are_whole.Goals as goal

pub returns : goal.returns
returns c = repaired_whole
