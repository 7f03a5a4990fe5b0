use Rattle.pcapfile_cut.proofs.ShortBlocks.{short_read}
use Rattle.pcapfile_cut.proofs.laws.shortened_blocks_are_read.Goals as goal

pub returns : goal.returns
returns c = short_read
