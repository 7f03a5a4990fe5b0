use Rattle.pcapfile_c.proofs.AnyTaken.{the_front}
use Rattle.pcapfile_c.proofs.AnyNgTaken.{ng_front}
use Rattle.pcapfile_c.proofs.laws.taken_packets_are_the_front.Goals as goal

pub returns-clause-packets : goal.returns-clause-packets
returns-clause-packets c start kept next s left rest given shown told status fresh not calls x end = the_front start.0 start.1 s fresh not kept next left rest given shown told status calls x end

pub returns-clause-blocks : goal.returns-clause-blocks
returns-clause-blocks c start kept next s left rest given shown told status fresh is calls x end = ng_front start.0 s fresh is start.1 kept next left rest given shown told status calls x end
