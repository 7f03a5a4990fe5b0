use Rattle.pcapfile_mended.proofs.StrictAgain.{sound_stays}
use Rattle.pcapfile_mended.proofs.laws.sound_blocks_stay.Goals as goal

pub returns : goal.returns
returns c = sound_stays
