use Rattle.pcapfile_c.proofs.TakenOptions.{names_more}
use Rattle.pcapfile_c.proofs.records.read_names.Goals as goal

pub loop-left-preserved : goal.loop-left-preserved
loop-left-preserved c = names_more _ _ _ _ c.loop-left.invariant c.in_ok-rest.ensures.tells
