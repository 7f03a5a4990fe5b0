use Rattle.pcapfile_merge.specs.TakingBlocks.{unput}
use Rattle.pcapfile_merge.proofs.made.Made.write.Goals as goal

pub returns-in-Err : goal.returns-in-Err
returns-in-Err g c = unput c.in-Err.unput c.in-Err.ensures c.from.ensures
