use Rattle.pcap_file.proofs.ConvertedPart.{conversion_begins}
use Rattle.pcap_file.proofs.laws.conversion_is_a_beginning.Goals as goal

pub returns : goal.returns
returns c = conversion_begins
