use Rattle.pcap_written.proofs.OptionsAgain.{options_marked}
use Rattle.pcap_written.proofs.laws.written_lists_end_with_their_mark.Goals as goal

pub returns : goal.returns
returns c = options_marked
