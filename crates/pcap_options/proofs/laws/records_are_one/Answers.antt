use Rattle.pcap_options.proofs.OneRecords.{records_one}
use Rattle.pcap_options.proofs.laws.records_are_one.Goals as goal

pub returns : goal.returns
returns c = records_one
