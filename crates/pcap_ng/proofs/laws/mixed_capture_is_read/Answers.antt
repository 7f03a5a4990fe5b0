use Rattle.pcap_ng.proofs.MixedAgain.{mixed_again}
use Rattle.pcap_ng.proofs.laws.mixed_capture_is_read.Goals as goal

pub returns : goal.returns
returns c = mixed_again
