use Rattle.pcapfile_merge.proofs.FrontsGiven.{first_given}
use Rattle.pcapfile_merge.proofs.laws.blocks_give_their_front.Goals as goal

pub returns : goal.returns
returns c = λ numbers a b given s gave is. first_given numbers a b given s gave is
