use Rattle.pcap_classic.specs.Parser.{header_of}
use Rattle.pcap_tolerant.proofs.KnownPackets.{under_lawful, as_is_held, as_is_text}
use Rattle.pcap_tolerant.proofs.reader.hold.Goals as goal

pub item-requires-clause-lawful : goal.item-requires-clause-lawful
item-requires-clause-lawful g c = under_lawful c.args.limit (header_of c.args.parser.now)

pub returns-clause-pulls : goal.returns-clause-pulls
returns-clause-pulls g c = as_is_held c.args.limit (header_of c.args.parser.now) _ _ _ _ c.item.result c.item.ensures.fills

pub returns-clause-text : goal.returns-clause-text
returns-clause-text g c = as_is_text c.args.limit (header_of c.args.parser.now) _ _ _ _ c.item.result c.item.ensures.fills
