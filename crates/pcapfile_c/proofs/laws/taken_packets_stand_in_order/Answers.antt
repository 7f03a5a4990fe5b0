use Rattle.pcapfile_c.proofs.AnyTaken.{in_order}
use Rattle.pcapfile_c.proofs.AnyNgTaken.{ng_in_order}
use Rattle.pcapfile_c.proofs.laws.taken_packets_stand_in_order.Goals as goal

pub returns-clause-packets : goal.returns-clause-packets
returns-clause-packets c start next s rest given fresh not calls = in_order start.0 start.1 s fresh not next rest given calls

pub returns-clause-blocks : goal.returns-clause-blocks
returns-clause-blocks c start next s rest given fresh is calls = ng_in_order start.0 s fresh is start.1 next rest given calls
