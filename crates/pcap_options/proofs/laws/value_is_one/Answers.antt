use Rattle.pcap_options.proofs.OneOption.{entry_one}
use Rattle.pcap_options.proofs.laws.value_is_one.Goals as goal

pub returns : goal.returns
returns c = entry_one
