use Rattle.pcap_classic.proofs.Accepted.{accepted_copied}
use Rattle.pcap_classic.proofs.laws.accepted_capture_is_copied.Goals as goal

pub returns : goal.returns
returns c = accepted_copied
