use Rattle.pcap_file.proofs.ConvertedAgain.{conversion_again}
use Rattle.pcap_file.proofs.laws.conversion_is_read.Goals as goal

pub returns : goal.returns
returns c = conversion_again
