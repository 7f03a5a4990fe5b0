use Rattle.pcapfile_merge.proofs.FrontsGiven.{all_given}
use Rattle.pcapfile_merge.proofs.laws.blocks_give_all_at_the_end.Goals as goal

pub returns : goal.returns
returns c = λ numbers a b now given s gave none is. all_given numbers a b given s gave now none is
