use Rattle.pcap_written.proofs.Going.{all_go_on}
use Rattle.pcap_written.proofs.laws.mixed_blocks_go_on.Goals as goal

pub returns : goal.returns
returns c = all_go_on
