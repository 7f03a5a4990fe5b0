use Rattle.pcap_classic.specs.Parser.{header_of}
use Rattle.pcap_classic.specs.PacketText.{content_of}
use Rattle.pcap_items.proofs.Formats.{nil_of_length}
use Rattle.std.proofs.Common.{length, ap}
use Rattle.pcapfile_sort.proofs.PacketRecords.{packet_timed, refused_untimed, timed_packet}
use Rattle.pcapfile_sort.proofs.packets.is_packet.Goals as goal

pub returns-in-Ok-clause-yes : goal.returns-in-Ok-clause-yes
returns-in-Ok-clause-yes c = λ is.
    let both = c.is_alone.ensures.yes is in
    timed_packet (header_of c.args.parser.now) c.args.parser.now.valid c.args.text.now c.args.time (content_of c.in-Ok.packet) c.in-Ok.rest.now c.in-Ok.ensures.tells (nil_of_length c.in-Ok.rest.now both.0) both.1

pub returns-in-Ok-clause-no : goal.returns-in-Ok-clause-no
returns-in-Ok-clause-no c = λ is ranked.
    let both = packet_timed (header_of c.args.parser.now) c.args.parser.now.valid c.args.text.now c.args.time (content_of c.in-Ok.packet) c.in-Ok.rest.now c.in-Ok.ensures.tells ranked in
    c.is_alone.ensures.no is (ap length both.0) both.1

pub returns-clause-no : goal.returns-clause-no
returns-clause-no c = λ is ranked. refused_untimed (header_of c.args.parser.now) c.args.parser.now.valid c.args.text.now c.args.time c.in-Err.field-0 c.in-Err.ensures.tells ranked
