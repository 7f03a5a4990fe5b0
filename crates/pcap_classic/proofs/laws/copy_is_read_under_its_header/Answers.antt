use Rattle.pcap_classic.proofs.Accepted.{copy_again}
use Rattle.pcap_classic.proofs.laws.copy_is_read_under_its_header.Goals as goal

pub returns : goal.returns
returns c = copy_again
