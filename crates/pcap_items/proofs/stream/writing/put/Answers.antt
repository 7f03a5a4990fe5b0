use Rattle.pcap_items.proofs.Writing.{tears_all}
use Rattle.pcap_items.proofs.stream.writing.put.Goals as goal

pub returns-in-Err-clause-out : goal.returns-in-Err-clause-out
returns-in-Err-clause-out g c = tears_all _ _ _ c.in-Err.torn c.in-Err.ensures.out
