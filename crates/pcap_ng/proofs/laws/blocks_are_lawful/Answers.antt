use Rattle.pcap_ng.proofs.BlockFormat.{blocks_lawful}
use Rattle.pcap_ng.proofs.laws.blocks_are_lawful.Goals as goal

pub returns : goal.returns
returns c = blocks_lawful
