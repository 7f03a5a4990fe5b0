use Rattle.std.proofs.Common.{rules}
use Rattle.pcap_tolerant_captures.proofs.reader.PcapNgReaderAsIs.simple.Goals as goal

pub returns-clause-body : goal.returns-clause-body
returns-clause-body g c = (search rules, (c.in_ok-_rest._rest.now, rw c.body.ensures at c.in_ok-_rest.ensures.read))
