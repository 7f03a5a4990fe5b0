use Rattle.pcap_ng.proofs.WrittenAgain.{capture_again}
use Rattle.pcap_ng.proofs.laws.written_capture_is_read.Goals as goal

pub returns : goal.returns
returns c = capture_again
