use Rattle.pcapfile_cut.proofs.JoinedParts.{parts_hold}
use Rattle.pcapfile_cut.proofs.laws.parts_hold_the_packets.Goals as goal

pub returns : goal.returns
returns c = parts_hold
