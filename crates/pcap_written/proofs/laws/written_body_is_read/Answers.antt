use Rattle.pcap_written.proofs.BodiesAgain.{body_again}
use Rattle.pcap_written.proofs.laws.written_body_is_read.Goals as goal

pub returns : goal.returns
returns c = body_again
