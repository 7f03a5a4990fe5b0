use Rattle.pcapfile_values.proofs.bodies.enhanced.Goals as goal

pub returns-in-Big : goal.returns-in-Big
returns-in-Big c = rw c.in-Big.is c.enhanced_in.ensures

pub returns-in-Little : goal.returns-in-Little
returns-in-Little c = rw c.in-Little.is c.enhanced_in-in-Little.ensures
