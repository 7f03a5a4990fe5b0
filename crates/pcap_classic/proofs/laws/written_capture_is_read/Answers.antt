use Rattle.pcap_classic.proofs.ReadCapture.{capture_again}
use Rattle.pcap_classic.proofs.laws.written_capture_is_read.Goals as goal

pub returns : goal.returns
returns c = capture_again
