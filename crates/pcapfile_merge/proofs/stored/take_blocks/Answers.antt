use Rattle.pcapfile_merge.specs.BufferedBlocks.{body_of, progress_of}
use Rattle.pcapfile_merge.specs.Passing.{bytes_within}
use Rattle.pcapfile_merge.proofs.Given.{blocks_few, blocks_ready}
use Rattle.pcapfile_merge.proofs.stored.take_blocks.Goals as goal

pub returns-in-Ok-clause-few : goal.returns-in-Ok-clause-few
returns-in-Ok-clause-few g c = blocks_few c.take_shown.new.blocks c.in-Ok.next c.in-Ok.ensures.few

pub returns-in-Ok-clause-ready : goal.returns-in-Ok-clause-ready
returns-in-Ok-clause-ready g c =
    blocks_ready g.R.Read.remaining c.args.numbers.now (progress_of g.R.Read.remaining c.args.blocks.now) c.take_shown.new.blocks (bytes_within (body_of c.take_shown.new.blocks)) c.in-Ok.next _ c.in-Ok.ensures.takes
