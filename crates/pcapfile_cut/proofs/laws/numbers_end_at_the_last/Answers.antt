use Rattle.std.proofs.Common.{◌-◌, ap, drop}
use Rattle.std.proofs.lemmas.List.{take-append-le}
use Rattle.pcapfile_cut.proofs.laws.numbers_end_at_the_last.Goals as goal

pub returns : goal.returns
returns c first last packets more le = ap (drop (first - 1)) (take-append-le last packets more le)
