use Rattle.pcap_parts.proofs.NgCaptures.{ng_run_parts}
use Rattle.pcap_parts.proofs.laws.ng_run_is_in_parts.Goals as goal

pub returns : goal.returns
returns c = ng_run_parts
