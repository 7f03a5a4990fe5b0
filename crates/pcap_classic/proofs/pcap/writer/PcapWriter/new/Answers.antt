use Rattle.std.proofs.Common.{◌≡◌, ◌∙◌, refl}
use Rattle.pcap_classic.specs.Magic.{kind_of, resolution_of}
use Rattle.pcap_classic.specs.Defaults.{little_header}
use Rattle.pcap_classic.proofs.pcap.writer.PcapWriter.new.Goals as goal

pub returns : goal.returns
unfolding kind_of resolution_of
returns g c =
    let header : c.set_endianness.new.self ≡ little_header = c.set_endianness.ensures.header ∙ rw c.default-header.ensures.0 refl in
    rw (← header) c.with_header.ensures
