use Rattle.pcapfile_sort.proofs.OneOrder.{one_order}
use Rattle.pcapfile_sort.proofs.laws.order_is_one.Goals as goal

pub returns : goal.returns
returns c = λ records a b first second. one_order records a b first second
