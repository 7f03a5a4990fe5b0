use Rattle.pcap_tolerant_captures.proofs.Format.{as_is_one}
use Rattle.pcap_tolerant_captures.proofs.laws.block_as_it_stands_is_one.Goals as goal

pub returns : goal.returns
returns c = as_is_one
