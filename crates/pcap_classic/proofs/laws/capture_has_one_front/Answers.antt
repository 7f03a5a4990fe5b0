use Rattle.pcap_classic.proofs.OneFront.{capture_one}
use Rattle.pcap_classic.proofs.laws.capture_has_one_front.Goals as goal

pub returns : goal.returns
returns c = capture_one
