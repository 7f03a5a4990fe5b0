use Rattle.pcap_options.proofs.OneName.{names_one}
use Rattle.pcap_options.proofs.laws.names_are_one.Goals as goal

pub returns : goal.returns
returns c = names_one
