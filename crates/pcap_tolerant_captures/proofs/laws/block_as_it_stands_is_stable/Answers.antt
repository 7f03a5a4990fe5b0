use Rattle.pcap_tolerant_captures.proofs.Format.{as_is_stable}
use Rattle.pcap_tolerant_captures.proofs.laws.block_as_it_stands_is_stable.Goals as goal

pub returns : goal.returns
returns c = as_is_stable
