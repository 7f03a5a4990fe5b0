use Rattle.pcapfile_sort.proofs.BlockOrder.{number_order}
use Rattle.pcapfile_sort.proofs.laws.numbers_are_in_order.Goals as goal

pub returns : goal.returns
returns c = λ a b m n x y one other. number_order a b m n x y one other
