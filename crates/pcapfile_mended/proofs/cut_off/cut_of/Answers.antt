use Rattle.pcapfile_mended.proofs.cut_off.cut_of.Goals as goal

pub returns-in-Big : goal.returns-in-Big
returns-in-Big c = rw c.in-Big.is c.cut_in.ensures

pub returns-in-Little : goal.returns-in-Little
returns-in-Little c = rw c.in-Little.is c.cut_in-in-Little.ensures
