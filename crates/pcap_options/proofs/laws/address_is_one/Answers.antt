use Rattle.pcap_options.proofs.OneRecord.{address_one}
use Rattle.pcap_options.proofs.laws.address_is_one.Goals as goal

pub returns : goal.returns
returns c = address_one
