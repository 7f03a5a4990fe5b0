use Rattle.pcapfile_cut.proofs.BlockParts.{holds_blocks}
use Rattle.pcapfile_cut.proofs.laws.parts_hold_the_blocks.Goals as goal

pub returns : goal.returns
returns c = holds_blocks
