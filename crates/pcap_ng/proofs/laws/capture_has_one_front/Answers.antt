use Rattle.pcap_ng.proofs.CaptureFronts.{capture_one}
use Rattle.pcap_ng.proofs.laws.capture_has_one_front.Goals as goal

pub returns : goal.returns
returns c = capture_one
