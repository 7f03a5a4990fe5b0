use Rattle.pcap_written.proofs.OptionsAgain.{options_read}
use Rattle.pcap_written.proofs.laws.written_options_are_read.Goals as goal

pub returns : goal.returns
returns c = options_read
