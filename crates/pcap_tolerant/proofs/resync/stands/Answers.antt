use Rattle.std.proofs.Common.{◌≡◌, ◌<◌, length, refl, arith}
use Rattle.pcap_classic.specs.Parser.{header_of}
use Rattle.pcap_classic.specs.PacketText.{content_of}
use Rattle.pcap_tolerant.proofs.Rows.{packets_down, packets_up, packets_end, packets_empty, packets_refused}
use Rattle.pcap_tolerant.proofs.resync.stands.Goals as goal

pub returns-then-rest-eq0 : goal.returns-then-rest-eq0
returns-then-rest-eq0 c =
    let some : 0 < c.loop-more.more = omega (arith, c.loop-more-test.true) in
    let has : 0 < c.in-Ok.packet.header.incl_len = omega (arith, c.if-packet-eq0.false) in
    let none : length c.in-Ok.rest.now ≡ 0 = omega (arith, c.if-rest-eq0.true) in
    (λ yes. c.loop-more.invariant.up (packets_end (header_of c.args.parser.now) c.loop-more.more c.loop-more.left.now c.in-Ok.rest.now (content_of c.in-Ok.packet) c.in-Ok.ensures.tells has some none), λ row. refl)

pub loop-more-preserved : goal.loop-more-preserved
loop-more-preserved c =
    let header = header_of c.args.parser.now in
    let some : 0 < c.loop-more.more = omega (arith, c.loop-more-test.true) in
    let has : 0 < c.in-Ok.packet.header.incl_len = omega (arith, c.if-packet-eq0.false) in
    let on : length c.in-Ok.rest.now ≡ 0 → ⊥ = λ e. omega (arith, e, c.if-rest-eq0.false) in
    let v = content_of c.in-Ok.packet in
    record {
      down = λ row. packets_down header c.loop-more.more c.loop-more.left.now c.in-Ok.rest.now v c.in-Ok.ensures.tells some on (c.loop-more.invariant.down row);
      up = λ row. c.loop-more.invariant.up (packets_up header c.loop-more.more c.loop-more.left.now c.in-Ok.rest.now v c.in-Ok.ensures.tells has some row);
    }

pub returns-in-Err : goal.returns-in-Err
returns-in-Err c =
    let some : 0 < c.loop-more.more = omega (arith, c.loop-more-test.true) in
    (λ no. absurd cc, λ row. absurd (packets_refused (header_of c.args.parser.now) c.loop-more.more c.loop-more.left.now c.in-Err._e c.in-Err.ensures.tells some (c.loop-more.invariant.down row)))

pub returns-then-packet-eq0 : goal.returns-then-packet-eq0
returns-then-packet-eq0 c =
    let some : 0 < c.loop-more.more = omega (arith, c.loop-more-test.true) in
    let none : c.in-Ok.packet.header.incl_len ≡ 0 = omega (arith, c.if-packet-eq0.true) in
    (λ no. absurd cc, λ row. absurd (packets_empty (header_of c.args.parser.now) c.loop-more.more c.loop-more.left.now c.in-Ok.rest.now (content_of c.in-Ok.packet) c.in-Ok.ensures.tells none some (c.loop-more.invariant.down row)))
