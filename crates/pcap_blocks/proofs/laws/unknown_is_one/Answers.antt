use Rattle.pcap_blocks.proofs.OneBody.{unknown_one}
use Rattle.pcap_blocks.proofs.laws.unknown_is_one.Goals as goal

pub returns : goal.returns
returns c = unknown_one
