use Rattle.pcapfile_values.proofs.bodies.parse_body.Goals as goal

pub returns-in-Big-clause-tells : goal.returns-in-Big-clause-tells
returns-in-Big-clause-tells c = rw c.in-Big.is c.from_slice.ensures.tells

pub returns-in-Little-clause-tells : goal.returns-in-Little-clause-tells
returns-in-Little-clause-tells c = rw c.in-Little.is c.from_slice-in-Little.ensures.tells
