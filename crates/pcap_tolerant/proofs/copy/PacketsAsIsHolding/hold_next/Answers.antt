use Rattle.pcap_classic.specs.Parser.{header_of}
use Rattle.pcap_tolerant.proofs.Copied.{packet_held}
use Rattle.pcap_tolerant.proofs.KnownPackets.{under_lawful}
use Rattle.pcap_tolerant.proofs.copy.PacketsAsIsHolding.hold_next.Goals as goal

pub fill_item-requires-clause-lawful : goal.fill_item-requires-clause-lawful
fill_item-requires-clause-lawful g c = under_lawful c.args.self.now.limit (header_of c.args.self.now.parser.now)

pub returns : goal.returns
returns g c = rw c.is_some.ensures (packet_held c.args.self.now.limit (header_of c.args.self.now.parser.now) _ _ _ _ c.in_ok-head.head c.in_ok-head.ensures.fills)
