use Rattle.pcap_tolerant_captures.proofs.Strict.{strict_is}
use Rattle.pcap_tolerant_captures.proofs.laws.strict_block_is.Goals as goal

pub returns : goal.returns
returns c = strict_is
