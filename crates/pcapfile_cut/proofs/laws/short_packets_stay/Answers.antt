use Rattle.pcapfile_cut.proofs.ChangedPackets.{short_stays}
use Rattle.pcapfile_cut.proofs.laws.short_packets_stay.Goals as goal

pub returns : goal.returns
returns c = short_stays
