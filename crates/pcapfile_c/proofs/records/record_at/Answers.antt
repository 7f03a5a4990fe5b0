use Rattle.pcapfile_c.proofs.records.record_at.Goals as goal

pub returns-in-Big : goal.returns-in-Big
returns-in-Big c = rw c.in-Big.is c.record_in.ensures

pub returns-in-Little : goal.returns-in-Little
returns-in-Little c = rw c.in-Little.is c.record_in-in-Little.ensures
