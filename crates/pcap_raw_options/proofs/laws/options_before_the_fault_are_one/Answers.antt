use Rattle.pcap_raw_options.proofs.OneUpTo.{up_to_one}
use Rattle.pcap_raw_options.proofs.laws.options_before_the_fault_are_one.Goals as goal

pub returns : goal.returns
returns c = up_to_one
