use Rattle.pcap_parts.proofs.Asking.{fed_not_refused}
use Rattle.pcap_parts.proofs.laws.resuming_asks_for_no_bytes.Goals as goal

pub returns : goal.returns
returns c = fed_not_refused
