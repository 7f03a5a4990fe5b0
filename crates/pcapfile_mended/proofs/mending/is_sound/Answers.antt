use Rattle.pcapfile_mended.proofs.mending.is_sound.Goals as goal

pub returns-in-Big-clause-memory : goal.returns-in-Big-clause-memory
returns-in-Big-clause-memory c = rw c.in-Big.is c.is_taken.ensures.memory

pub returns-in-Little-clause-memory : goal.returns-in-Little-clause-memory
returns-in-Little-clause-memory c = rw c.in-Little.is c.is_taken-in-Little.ensures.memory
