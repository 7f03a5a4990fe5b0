use Rattle.pcapfile_cut.proofs.FrontCuts.{cut_front}
use Rattle.pcapfile_cut.proofs.laws.cut_is_of_the_front.Goals as goal

pub returns : goal.returns
returns c = cut_front
