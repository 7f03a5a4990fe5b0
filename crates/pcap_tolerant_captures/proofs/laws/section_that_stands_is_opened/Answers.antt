use Rattle.pcap_tolerant_captures.proofs.StandAgain.{header_opens}
use Rattle.pcap_tolerant_captures.proofs.laws.section_that_stands_is_opened.Goals as goal

pub returns : goal.returns
returns c = header_opens
