use Rattle.pcapfile_cut.proofs.ChangedPackets.{shortened_read}
use Rattle.pcapfile_cut.proofs.laws.shortened_packets_are_read.Goals as goal

pub returns : goal.returns
returns c = shortened_read
