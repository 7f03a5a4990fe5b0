use Rattle.pcap_options.proofs.OneName.{name_one}
use Rattle.pcap_options.proofs.laws.name_is_one.Goals as goal

pub returns : goal.returns
returns c = name_one
