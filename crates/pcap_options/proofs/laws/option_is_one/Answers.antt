use Rattle.pcap_options.proofs.OneOption.{option_one}
use Rattle.pcap_options.proofs.laws.option_is_one.Goals as goal

pub returns : goal.returns
returns c = option_one
