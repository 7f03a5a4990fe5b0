use Rattle.pcapfile_cut.proofs.ChangedPackets.{changed_read}
use Rattle.pcapfile_cut.proofs.laws.changed_packets_are_read.Goals as goal

pub returns : goal.returns
returns c = changed_read
