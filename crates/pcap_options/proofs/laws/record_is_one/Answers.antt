use Rattle.pcap_options.proofs.OneRecord.{record_one}
use Rattle.pcap_options.proofs.laws.record_is_one.Goals as goal

pub returns : goal.returns
returns c = record_one
