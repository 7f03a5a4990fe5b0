use Rattle.pcap_written.proofs.Going.{good_raw_call}
use Rattle.pcap_written.proofs.laws.good_raw_calls_write_blocks.Goals as goal

pub returns : goal.returns
returns p c = good_raw_call _
