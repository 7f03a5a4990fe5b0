use Rattle.pcapfile_sort.proofs.OneOrder.{sorted_whole}
use Rattle.pcapfile_sort.proofs.laws.accepted_capture_is_sorted.Goals as goal

pub returns : goal.returns
returns c = λ opening records sorted bytes out failed begins order sorts. sorted_whole opening records sorted bytes out begins order sorts
