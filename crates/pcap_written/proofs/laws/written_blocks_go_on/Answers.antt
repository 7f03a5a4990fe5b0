use Rattle.pcap_written.proofs.Going.{goes_on}
use Rattle.pcap_written.proofs.laws.written_blocks_go_on.Goals as goal

pub returns : goal.returns
returns c = goes_on
