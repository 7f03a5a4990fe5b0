use Rattle.std.proofs.Common.{map}
use Rattle.pcap_options.specs.EnhancedOption.{enhanced_entry}
use Rattle.pcapfile_merge.proofs.Reversing.{little_stays}
use Rattle.pcapfile_merge.proofs.reordered.put_in_little.Goals as goal

pub returns-in-Little : goal.returns-in-Little
returns-in-Little c = little_stays c.args.order c.in-Little.is (map enhanced_entry c.args.options.now)
