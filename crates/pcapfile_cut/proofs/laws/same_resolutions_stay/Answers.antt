use Rattle.pcapfile_cut.proofs.ChangedPackets.{same_stays}
use Rattle.pcapfile_cut.proofs.Resolutions.{same_opening}
use Rattle.pcapfile_cut.proofs.laws.same_resolutions_stay.Goals as goal

pub returns-clause-opening : goal.returns-clause-opening
returns-clause-opening c = same_opening

pub returns-clause-packets : goal.returns-clause-packets
returns-clause-packets c = same_stays
