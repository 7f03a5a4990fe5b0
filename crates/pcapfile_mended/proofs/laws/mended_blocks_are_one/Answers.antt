use Rattle.pcapfile_mended.proofs.StrictAgain.{mended_one}
use Rattle.pcapfile_mended.proofs.laws.mended_blocks_are_one.Goals as goal

pub returns : goal.returns
returns c = mended_one
