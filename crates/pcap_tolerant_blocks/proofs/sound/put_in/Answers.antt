use Rattle.pcap_tolerant_blocks.proofs.sound.put_in.Goals as goal

pub returns-in-Big-clause-put : goal.returns-in-Big-clause-put
returns-in-Big-clause-put g c = rw c.in-Big.is c.put_sound.ensures.put

pub returns-in-Big-clause-memory : goal.returns-in-Big-clause-memory
returns-in-Big-clause-memory g c = rw c.in-Big.is c.put_sound.ensures.memory

pub returns-in-Little-clause-put : goal.returns-in-Little-clause-put
returns-in-Little-clause-put g c = rw c.in-Little.is c.put_sound-in-Little.ensures.put

pub returns-in-Little-clause-memory : goal.returns-in-Little-clause-memory
returns-in-Little-clause-memory g c = rw c.in-Little.is c.put_sound-in-Little.ensures.memory

pub returns-in-Big-clause-begun : goal.returns-in-Big-clause-begun
returns-in-Big-clause-begun g c = rw c.in-Big.is c.put_sound.ensures.begun

pub returns-in-Little-clause-begun : goal.returns-in-Little-clause-begun
returns-in-Little-clause-begun g c = rw c.in-Little.is c.put_sound-in-Little.ensures.begun
