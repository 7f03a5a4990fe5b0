use Rattle.capcopy_run.proofs.Exits.{error_known}
use Rattle.capcopy_run.proofs.copy.copy.Goals as goal

pub returns-in-Some-clause-known : goal.returns-in-Some-clause-known
returns-in-Some-clause-known g c = error_known c.in-Some.error c.from.result c.from.ensures
