use Rattle.pcap_items.proofs.Copying.{each_writing}
use Rattle.pcap_classic.proofs.Copied.{lawful_under}
use Rattle.pcap_classic.proofs.run.copy.PacketsAhead.copy.Goals as goal

pub copy_items-requires-clause-lawful : goal.copy_items-requires-clause-lawful
copy_items-requires-clause-lawful g c = lawful_under c.args.self.now.header

pub copy_items-requires-clause-writing : goal.copy_items-requires-clause-writing
copy_items-requires-clause-writing g c = each_writing _
