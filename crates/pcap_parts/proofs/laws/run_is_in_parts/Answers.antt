use Rattle.pcap_parts.proofs.Captures.{run_parts}
use Rattle.pcap_parts.proofs.laws.run_is_in_parts.Goals as goal

pub returns : goal.returns
returns c = run_parts
