use Rattle.pcapfile_mended.proofs.StrictAgain.{kept_list}
use Rattle.pcapfile_mended.proofs.laws.sound_options_are_a_list.Goals as goal

pub returns : goal.returns
returns c = kept_list
