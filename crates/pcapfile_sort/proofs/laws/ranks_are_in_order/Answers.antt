use Rattle.pcapfile_sort.proofs.BlockOrder.{rank_order}
use Rattle.pcapfile_sort.proofs.laws.ranks_are_in_order.Goals as goal

pub returns : goal.returns
returns c = λ a b m n few less. rank_order a b m n few less
