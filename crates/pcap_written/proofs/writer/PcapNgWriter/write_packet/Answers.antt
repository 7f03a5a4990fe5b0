use Rattle.std.proofs.Common.{arith, inl, inr, refl, rules, subst, sym}
use Rattle.pcap_core.specs.declared.common.Endianness.{Endianness}
use Rattle.pcap_items.specs.Writing.{WritesAll}
use Rattle.pcap_core.specs.Codec.{number_bytes}
use Rattle.pcap_core.proofs.Codec.{codec}
use Rattle.pcap_blocks.specs.ParsedBlock.{EnhancedBody}
use Rattle.pcap_written.specs.declared.unwritable.Unwritable.TheVariants.{BlockTooLong, InterfaceMissing}
use Rattle.pcap_written.specs.Bodies.{text_of}
use Rattle.pcap_written.specs.Writing.{IsKept}
use Rattle.pcap_written.specs.Plain.{plain_packet}
use Rattle.pcap_written.proofs.Packets.{packet_fit, packet_placed, plain_length, refused_here, went_out}
use Rattle.pcap_written.proofs.writer.PcapNgWriter.write_packet.Goals as goal

pub returns-then-interface_id-self-clause-block : goal.returns-then-interface_id-self-clause-block
returns-then-interface_id-self-clause-block g c =
    let a = c.args in
    let w = a.self.now in
    let kept : IsKept g.W.Write.contents w w = record { good = c.if-self.false; place = refl; out = search rules } in
    refused_here g.W.Write.contents w (EnhancedBody (plain_packet a.interface_id a.timestamp a.original_len a.bytes.now)) InterfaceMissing c.if-self.false kept (inl (a.interface_id, refl, c.if-interface_id-self.true)) c.from.result c.from.ensures

pub returns-then-bytes-gt4294967260-clause-block : goal.returns-then-bytes-gt4294967260-clause-block
returns-then-bytes-gt4294967260-clause-block g c =
    let a = c.args in
    let w = a.self.now in
    let e = w.place.endianness in
    let kept : IsKept g.W.Write.contents w w = record { good = c.if-self.false; place = refl; out = search rules } in
    let placed = packet_placed w.place a.interface_id a.timestamp a.original_len a.bytes.now c.if-interface_id-self.false (search rules) in
    let long = plain_length (number_bytes e) (codec e).wide a.interface_id a.timestamp a.original_len a.bytes.now in
    refused_here g.W.Write.contents w (EnhancedBody (plain_packet a.interface_id a.timestamp a.original_len a.bytes.now)) BlockTooLong c.if-self.false kept (inr (e, placed.0, omega (arith, long, c.if-bytes-gt4294967260.true))) c.from-then-bytes-gt4294967260.result c.from-then-bytes-gt4294967260.ensures

pub returns-in-Big-clause-block : goal.returns-in-Big-clause-block
returns-in-Big-clause-block g c =
    let a = c.args in
    let w = a.self.now in
    let contents = g.W.Write.contents in
    let body = EnhancedBody (plain_packet a.interface_id a.timestamp a.original_len a.bytes.now) in
    let e = w.place.endianness in
    let inner = c.put_packet.new.writer in
    let out : WritesAll (contents w.inner) (contents inner) (text_of (number_bytes e) body) c.put_packet.result =
    subst (λ (o : Endianness). WritesAll (contents w.inner) (contents inner) (text_of (number_bytes o) body) c.put_packet.result) (sym c.in-Big.is) c.put_packet.ensures.out in
    let fit = packet_fit e a.interface_id a.timestamp a.original_len a.bytes.now (omega (arith, c.ranges.interface_id.fits)) (omega (arith, c.ranges.timestamp.fits)) (omega (arith, c.ranges.original_len.fits)) c.if-bytes-gt4294967260.false in
    went_out contents w (record w { inner = inner; has_failed = c.put_packet.new.has_failed }) body c.if-self.false refl (packet_placed w.place a.interface_id a.timestamp a.original_len a.bytes.now c.if-interface_id-self.false (search rules)) fit c.put_packet.result out c.put_packet.ensures.told

pub returns-in-Little-clause-block : goal.returns-in-Little-clause-block
returns-in-Little-clause-block g c =
    let a = c.args in
    let w = a.self.now in
    let contents = g.W.Write.contents in
    let body = EnhancedBody (plain_packet a.interface_id a.timestamp a.original_len a.bytes.now) in
    let e = w.place.endianness in
    let inner = c.put_packet-in-Little.new.writer in
    let out : WritesAll (contents w.inner) (contents inner) (text_of (number_bytes e) body) c.put_packet-in-Little.result =
    subst (λ (o : Endianness). WritesAll (contents w.inner) (contents inner) (text_of (number_bytes o) body) c.put_packet-in-Little.result) (sym c.in-Little.is) c.put_packet-in-Little.ensures.out in
    let fit = packet_fit e a.interface_id a.timestamp a.original_len a.bytes.now (omega (arith, c.ranges.interface_id.fits)) (omega (arith, c.ranges.timestamp.fits)) (omega (arith, c.ranges.original_len.fits)) c.if-bytes-gt4294967260.false in
    went_out contents w (record w { inner = inner; has_failed = c.put_packet-in-Little.new.has_failed }) body c.if-self.false refl (packet_placed w.place a.interface_id a.timestamp a.original_len a.bytes.now c.if-interface_id-self.false (search rules)) fit c.put_packet-in-Little.result out c.put_packet-in-Little.ensures.told
