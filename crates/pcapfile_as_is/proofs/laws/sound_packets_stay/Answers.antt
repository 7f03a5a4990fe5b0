use Rattle.pcapfile_as_is.proofs.Whole.{sound_stays}
use Rattle.pcapfile_as_is.proofs.laws.sound_packets_stay.Goals as goal

pub returns : goal.returns
returns c = sound_stays
