use Rattle.pcapfile_merge.specs.BufferedBlocks.{progress_of}
use Rattle.pcapfile_merge.proofs.ShownTaken.{held_taken}
use Rattle.pcapfile_merge.proofs.stored.take_shown.Goals as goal

pub returns-in-None-clause-takes : goal.returns-in-None-clause-takes
returns-in-None-clause-takes g c =
    let mid = c.take_there.new.blocks in
    let stays = c.in-None.ensures.there in
    held_taken g.R.Read.remaining c.args.numbers.now (progress_of g.R.Read.remaining c.args.blocks.now) mid.shown mid.reader c.take_block.new.reader mid.kept c.take_block.new.kept c.take_block.new.made c.take_block.result stays.0 stays.1 c.take_block.ensures.takes

pub returns-in-Some-clause-takes : goal.returns-in-Some-clause-takes
returns-in-Some-clause-takes g c = c.in-Some.ensures.there
