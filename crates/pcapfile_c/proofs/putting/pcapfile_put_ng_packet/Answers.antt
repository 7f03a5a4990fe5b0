use Rattle.std.proofs.Common.{◌≡◌, ◌+◌, ◌*◌, length, arith, refl, sym, ap, ◌∙◌, rules}
use Rattle.pcap_core.specs.declared.rules.Rule.TheVariants.{SectionMagic}
use Rattle.pcap_core.specs.Codec.{number_bytes}
use Rattle.pcap_core.proofs.Codec.{codec}
use Rattle.pcap_written.specs.Bodies.{text_of}
use Rattle.pcapfile_values.specs.declared.errors.PcapfileError.{PcapfileError}
use Rattle.pcapfile_values.specs.declared.reasons.Reason.TheVariants.{Breaks}
use Rattle.pcapfile_values.specs.BlockTexts.{packet_block}
use Rattle.pcapfile_values.proofs.Parts.{packet_text_long}
use Rattle.pcapfile_c.specs.Putting.{PacketFlaw, a_packet}
use Rattle.pcapfile_c.proofs.Fitting.{puts_whole, puts_nothing, puts_refused, packet_is_text}
use Rattle.pcapfile_c.proofs.putting.pcapfile_put_ng_packet.Goals as goal

pub returns-in_default : goal.returns-in_default
returns-in_default c =
    let s = c.args.section.now in
    let p = c.args.packet.now in
    puts_refused (PacketFlaw s p) (a_packet p) s c.args.room.now c.args.written.now c.args.error.now c.refuse.new.told c.refuse.result (Breaks SectionMagic) (refl, sym c.endianness.ensures ∙ c.in_default.is) c.refuse.ensures

pub returns-then-room-len : goal.returns-then-room-len
returns-then-room-len c =
    let s = c.args.section.now in
    let p = c.args.packet.now in
    let e = c.in-Some.order in
    let long : c.div_ceil.result * 4 + 32 ≡ length (text_of (number_bytes e) (packet_block p)) = omega (arith, c.div_ceil.ensures, packet_text_long (number_bytes e) (codec e).wide p) in
    puts_nothing (PacketFlaw s p) (a_packet p) s s (text_of (number_bytes e) (packet_block p)) c.args.room.now (c.div_ceil.result * 4 + 32) c.args.written.now c.args.error.now c.need.new.told c.need.result
    (packet_is_text e s p (sym c.in-Some.ensures) c.if-packet-section.false (search rules) (search rules) (search rules) c.if-packet-gt4294967260.false) long c.if-room-len.true (ap (λ (t : PcapfileError). t.rule) c.need.ensures.told) (ap (λ (t : PcapfileError). t.missing) c.need.ensures.told) c.need.ensures.status

pub returns : goal.returns
returns c =
    let s = c.args.section.now in
    let p = c.args.packet.now in
    let e = c.in-Some.order in
    let long : c.div_ceil.result * 4 + 32 ≡ length (text_of (number_bytes e) (packet_block p)) = omega (arith, c.div_ceil.ensures, packet_text_long (number_bytes e) (codec e).wide p) in
    puts_whole (PacketFlaw s p) (a_packet p) s s (text_of (number_bytes e) (packet_block p)) c.args.room.now c.put_packet.new.room (c.div_ceil.result * 4 + 32) c.args.written.now c.args.error.now
    (packet_is_text e s p (sym c.in-Some.ensures) c.if-packet-section.false (search rules) (search rules) (search rules) c.if-packet-gt4294967260.false) long c.put_packet.ensures
