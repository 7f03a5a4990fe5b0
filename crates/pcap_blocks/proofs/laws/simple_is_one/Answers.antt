use Rattle.pcap_blocks.proofs.OneWhole.{simple_one}
use Rattle.pcap_blocks.proofs.laws.simple_is_one.Goals as goal

pub returns : goal.returns
returns c = simple_one
