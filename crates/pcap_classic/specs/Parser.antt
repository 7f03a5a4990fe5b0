-- The header of a parser, and the results of making one.
use Rattle.std.specs.Prelude.{◌≡◌, Result, Ok, Err}
use Rattle.pcap_core.specs.declared.errors.PcapError.{PcapError}
use Rattle.pcap_core.specs.declared.errors.PcapError.TheVariants.{InvalidField}
use Rattle.pcap_classic.specs.declared.pcap.header.PcapHeader.{PcapHeader}
use Rattle.pcap_classic.specs.declared.pcap.parser.PcapParser.{PcapParser}
use Rattle.pcap_classic.specs.Writing.{IsWritable, RefusesMagic}

-- The header under which a parser reads packets.
abbrev pub header_of : PcapParser → PcapHeader
header_of parser = parser.header

-- The result of making a parser for a header: a parser with that header, or an error since the header's magic number is invalid.
abbrev pub OpensParser : PcapHeader → Result PcapParser PcapError → Type 0
OpensParser header (Ok parser) = IsWritable header × (header_of parser ≡ header)
OpensParser header (Err (InvalidField text)) = RefusesMagic header text.now
OpensParser header (Err _) = ⊥
