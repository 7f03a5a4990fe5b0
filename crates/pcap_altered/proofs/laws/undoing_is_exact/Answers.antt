use Rattle.pcap_altered.proofs.Transfers.{transferred_undone}
use Rattle.pcap_altered.proofs.laws.undoing_is_exact.Goals as goal

pub returns : goal.returns
returns c = transferred_undone
