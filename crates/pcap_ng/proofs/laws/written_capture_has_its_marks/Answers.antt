use Rattle.pcap_ng.proofs.WrittenAgain.{capture_marked}
use Rattle.pcap_ng.proofs.laws.written_capture_has_its_marks.Goals as goal

pub returns : goal.returns
returns c = capture_marked
