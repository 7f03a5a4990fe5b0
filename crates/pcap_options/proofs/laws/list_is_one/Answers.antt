use Rattle.pcap_options.proofs.OneList.{list_one}
use Rattle.pcap_options.proofs.laws.list_is_one.Goals as goal

pub returns : goal.returns
returns c = list_one
