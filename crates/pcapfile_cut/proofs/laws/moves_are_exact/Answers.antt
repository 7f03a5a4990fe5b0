use Rattle.pcapfile_cut.proofs.ChangedPackets.{earlier_time, later_time}
use Rattle.pcapfile_cut.proofs.laws.moves_are_exact.Goals as goal

pub returns-clause-later : goal.returns-clause-later
returns-clause-later c = later_time

pub returns-clause-earlier : goal.returns-clause-earlier
returns-clause-earlier c = earlier_time
