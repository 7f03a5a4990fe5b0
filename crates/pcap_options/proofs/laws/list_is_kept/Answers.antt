use Rattle.pcap_options.proofs.OneList.{list_kept, no_others}
use Rattle.pcap_options.proofs.laws.list_is_kept.Goals as goal

pub returns-clause-kept : goal.returns-clause-kept
returns-clause-kept c = list_kept

pub returns-clause-no_others : goal.returns-clause-no_others
returns-clause-no_others c = no_others
