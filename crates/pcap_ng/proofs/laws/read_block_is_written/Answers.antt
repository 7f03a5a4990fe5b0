use Rattle.pcap_ng.proofs.RawAgain.{text_of_frame}
use Rattle.pcap_ng.proofs.laws.read_block_is_written.Goals as goal

pub returns : goal.returns
returns c = text_of_frame
