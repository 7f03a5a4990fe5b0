use Rattle.pcap_raw_options.proofs.OneUpTo.{raw_two_rules}
use Rattle.pcap_raw_options.proofs.laws.raw_options_break_two_rules.Goals as goal

pub returns : goal.returns
returns c = raw_two_rules
