use Rattle.capcopy_run.proofs.packets.PacketsLister.list_shown.Goals as goal

pub returns-in-Big-clause-walks : goal.returns-in-Big-clause-walks
returns-in-Big-clause-walks g c = rw c.in-Big.is c.list_shown.ensures.walks

pub returns-in-Little-clause-walks : goal.returns-in-Little-clause-walks
returns-in-Little-clause-walks g c = rw c.in-Little.is c.list_shown-in-Little.ensures.walks
