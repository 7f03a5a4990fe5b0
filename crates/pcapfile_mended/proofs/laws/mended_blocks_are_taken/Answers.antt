use Rattle.pcapfile_mended.proofs.StrictAgain.{mended_taken}
use Rattle.pcapfile_mended.proofs.laws.mended_blocks_are_taken.Goals as goal

pub returns : goal.returns
returns c = mended_taken
