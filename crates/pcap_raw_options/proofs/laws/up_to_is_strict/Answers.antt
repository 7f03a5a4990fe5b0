use Rattle.pcap_raw_options.proofs.OneUpTo.{whole_is, fault_is}
use Rattle.pcap_raw_options.proofs.laws.up_to_is_strict.Goals as goal

pub returns : goal.returns
returns c = record { whole = whole_is; fault = fault_is }
