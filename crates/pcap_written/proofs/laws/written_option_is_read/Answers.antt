use Rattle.pcap_written.proofs.OptionsAgain.{option_read}
use Rattle.pcap_written.proofs.laws.written_option_is_read.Goals as goal

pub returns : goal.returns
returns c = option_read
