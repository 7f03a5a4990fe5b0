use Rattle.pcap_file.proofs.PlacedWhole.{opened_ready}
use Rattle.pcap_file.proofs.laws.opened_reader_is_ready.Goals as goal

pub returns : goal.returns
returns p c = opened_ready _
