use Rattle.std.proofs.Common.{rules}
use Rattle.pcapfile_mended.proofs.mending.is_taken.Goals as goal

pub returns-in-Err : goal.returns-in-Err
returns-in-Err g c = record { taken = search rules; memory = tt }
