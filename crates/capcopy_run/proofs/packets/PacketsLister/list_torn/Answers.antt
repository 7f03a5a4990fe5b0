use Rattle.capcopy_run.proofs.packets.PacketsLister.list_torn.Goals as goal

pub returns-in-Big-clause-turn : goal.returns-in-Big-clause-turn
returns-in-Big-clause-turn g c = rw c.in-Big.is c.list_torn.ensures.turn

pub returns-in-Little-clause-turn : goal.returns-in-Little-clause-turn
returns-in-Little-clause-turn g c = rw c.in-Little.is c.list_torn-in-Little.ensures.turn
