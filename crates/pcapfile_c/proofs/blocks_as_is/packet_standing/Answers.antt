use Rattle.pcapfile_c.proofs.blocks_as_is.packet_standing.Goals as goal

pub returns-in_ok-from_slice-in-Big-clause-read : goal.returns-in_ok-from_slice-in-Big-clause-read
returns-in_ok-from_slice-in-Big-clause-read c = rw c.in-Big.is (c.in_ok-from_slice-in-Big.field-0.0.now, c.in_ok-from_slice-in-Big.ensures.read)

pub returns-in_ok-from_slice-in-Little-clause-read : goal.returns-in_ok-from_slice-in-Little-clause-read
returns-in_ok-from_slice-in-Little-clause-read c = rw c.in-Little.is (c.in_ok-from_slice-in-Little.field-0.0.now, c.in_ok-from_slice-in-Little.ensures.read)
