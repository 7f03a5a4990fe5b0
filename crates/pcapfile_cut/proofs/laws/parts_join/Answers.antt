use Rattle.pcapfile_cut.proofs.JoinedParts.{parts_join}
use Rattle.pcapfile_cut.proofs.laws.parts_join.Goals as goal

pub returns : goal.returns
returns c = parts_join
