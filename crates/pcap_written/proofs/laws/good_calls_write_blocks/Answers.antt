use Rattle.pcap_written.proofs.Going.{good_call}
use Rattle.pcap_written.proofs.laws.good_calls_write_blocks.Goals as goal

pub returns : goal.returns
returns p c = good_call _
