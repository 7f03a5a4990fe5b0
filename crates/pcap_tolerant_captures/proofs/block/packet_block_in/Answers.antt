use Rattle.pcap_tolerant_captures.proofs.block.packet_block_in.Goals as goal

pub returns-in-Big-clause-read : goal.returns-in-Big-clause-read
returns-in-Big-clause-read c = rw c.in-Big.is c.from_slice.ensures.read

pub returns-in-Big-clause-memory : goal.returns-in-Big-clause-memory
returns-in-Big-clause-memory c = rw c.in-Big.is c.from_slice.ensures.memory

pub returns-in-Little-clause-read : goal.returns-in-Little-clause-read
returns-in-Little-clause-read c = rw c.in-Little.is c.from_slice-in-Little.ensures.read

pub returns-in-Little-clause-memory : goal.returns-in-Little-clause-memory
returns-in-Little-clause-memory c = rw c.in-Little.is c.from_slice-in-Little.ensures.memory
