use Rattle.pcapfile_as_is.proofs.MendedCaptures.{mended_read}
use Rattle.pcapfile_as_is.proofs.laws.mended_captures_are_read.Goals as goal

pub returns : goal.returns
returns c = mended_read
