use Rattle.pcapfile_cut.proofs.Resolutions.{opening_read}
use Rattle.pcapfile_cut.proofs.laws.changed_openings_are_read.Goals as goal

pub returns : goal.returns
returns c = opening_read
