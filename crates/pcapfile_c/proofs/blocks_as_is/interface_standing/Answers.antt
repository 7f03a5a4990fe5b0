use Rattle.pcapfile_c.proofs.blocks_as_is.interface_standing.Goals as goal

pub returns-in_ok-from_slice-in-Big : goal.returns-in_ok-from_slice-in-Big
returns-in_ok-from_slice-in-Big c = rw c.in-Big.is (c.in_ok-from_slice-in-Big.field-0.0.now, c.in_ok-from_slice-in-Big.ensures.read)

pub returns-in_ok-from_slice-in-Little : goal.returns-in_ok-from_slice-in-Little
returns-in_ok-from_slice-in-Little c = rw c.in-Little.is (c.in_ok-from_slice-in-Little.field-0.0.now, c.in_ok-from_slice-in-Little.ensures.read)
