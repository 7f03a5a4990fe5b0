use Rattle.pcap_blocks.proofs.OneBody.{body_one}
use Rattle.pcap_blocks.proofs.laws.body_is_one.Goals as goal

pub returns : goal.returns
returns c = body_one
