use Rattle.std.proofs.Common.{List, map, refl, subst}
use Rattle.pcap_tolerant_blocks.specs.declared.flaws.Flaw.{Flaw}
use Rattle.pcap_tolerant_blocks.specs.Flaws.{said_of}
use Rattle.pcap_ng.specs.Frames.{framed_of}
use Rattle.pcapfile_c.specs.BlocksAsIs.{FindsNothing}
use Rattle.pcapfile_c.proofs.Standing.{missing_stands, interface_stands, packet_stands, other_stands}
use Rattle.pcapfile_c.proofs.blocks_as_is.standing_on.Goals as goal

pub returns-then-section-eq0 : goal.returns-then-section-eq0
returns-then-section-eq0 c q shows = missing_stands c.args.section.now q (framed_of c.args.block) c.from.result shows c.if-section-eq0.true c.requires.other c.from.ensures

pub returns-in_ok-found-in-InterfaceDescription : goal.returns-in_ok-found-in-InterfaceDescription
returns-in_ok-found-in-InterfaceDescription c q shows =
    let b = framed_of c.args.block in
    let found = c.in_ok-found-in-InterfaceDescription in
    interface_stands c.args.section.now _ q b c.new-lent.result found.found shows c.if-section-eq0.false c.in-InterfaceDescription.is c.new-lent.ensures (rw (← c.endianness-order.ensures) found.ensures) refl refl refl c.saturating_add-interfaces.ensures

pub returns-in_ok-packet-in-EnhancedPacket : goal.returns-in_ok-packet-in-EnhancedPacket
returns-in_ok-packet-in-EnhancedPacket c q shows =
    let found = c.in_ok-packet-in-EnhancedPacket in
    packet_stands c.args.section.now q (framed_of c.args.block) c.new-lent.result found.field-0 shows c.if-section-eq0.false c.in-EnhancedPacket.is c.new-lent.ensures (rw (← c.endianness-order.ensures) found.ensures)

pub returns-in_default : goal.returns-in_default
returns-in_default c q shows =
    let found = subst (λ (flaws : List Flaw). FindsNothing c.new-lent.result (map said_of flaws) c.nothing.result) c.new.ensures.items c.nothing.ensures in
    other_stands c.args.section.now q (framed_of c.args.block) c.new-lent.result c.nothing.result shows c.if-section-eq0.false c.requires.other c.in_default.not-InterfaceDescription c.in_default.not-EnhancedPacket c.new-lent.ensures found
