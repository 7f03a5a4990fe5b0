use Rattle.pcapfile_cut.proofs.Behind.{selections_end}
use Rattle.pcapfile_cut.proofs.laws.selections_end_at_the_last.Goals as goal

pub returns : goal.returns
returns c = selections_end
