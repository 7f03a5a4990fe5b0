use Rattle.pcap_blocks.proofs.OneWhole.{journal_one}
use Rattle.pcap_blocks.proofs.laws.journal_is_one.Goals as goal

pub returns : goal.returns
returns c = journal_one
