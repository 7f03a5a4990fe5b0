use Rattle.pcap_ng.proofs.MarkedLists.{marked_begins}
use Rattle.pcap_ng.proofs.laws.unmarked_lists_keep_blocks.Goals as goal

pub returns : goal.returns
returns c = marked_begins
