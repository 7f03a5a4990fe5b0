use Rattle.pcap_classic.proofs.Accepted.{accepted_same}
use Rattle.pcap_classic.proofs.laws.copy_is_the_capture.Goals as goal

pub returns : goal.returns
returns c = accepted_same
