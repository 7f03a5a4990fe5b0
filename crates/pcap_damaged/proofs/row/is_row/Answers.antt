use Rattle.std.proofs.Common.{◌≡◌, ◌<◌, length, refl, arith}
use Rattle.pcap_classic.specs.Parser.{header_of}
use Rattle.pcap_classic.specs.PacketText.{content_of}
use Rattle.pcap_damaged.specs.Plausible.{Plausible}
use Rattle.pcap_damaged.proofs.Rows.{row_first, row_down, row_up, row_end, row_refused}
use Rattle.pcap_damaged.proofs.row.is_row.Goals as goal

pub loop-more-preserved : goal.loop-more-preserved
loop-more-preserved c =
    let header = header_of c.args.parser.now in
    let some : 0 < c.loop-more.more = omega (arith, c.loop-more-test.true) in
    let on : length c.in-Ok.rest.now ≡ 0 → ⊥ = λ e. omega (arith, e, c.if-rest-eq0.false) in
    let v = content_of c.in-Ok.packet in
    let sound : Plausible header c.loop-more.time_here v = c.is_plausible.ensures.0 (let no = c.if-not-is_plausible.false in search) in
    record {
      down = λ row. row_down header c.loop-more.time_here c.loop-more.more c.loop-more.left.now c.in-Ok.rest.now v c.in-Ok.ensures.tells some on (c.loop-more.invariant.down row);
      up = λ row. c.loop-more.invariant.up (row_up header c.loop-more.time_here c.loop-more.more c.loop-more.left.now c.in-Ok.rest.now v c.in-Ok.ensures.tells sound some row);
    }

pub returns-then-not-is_plausible : goal.returns-then-not-is_plausible
returns-then-not-is_plausible c =
    let header = header_of c.args.parser.now in
    let some : 0 < c.loop-more.more = omega (arith, c.loop-more-test.true) in (
      λ no. absurd cc,
      λ row.
          let sound = row_first header c.loop-more.time_here c.loop-more.more c.loop-more.left.now c.in-Ok.rest.now (content_of c.in-Ok.packet) c.in-Ok.ensures.tells some (c.loop-more.invariant.down row) in
          let yes = c.is_plausible.ensures.1 sound in
          let no = c.if-not-is_plausible.true in search,
    )

pub returns-then-rest-eq0 : goal.returns-then-rest-eq0
returns-then-rest-eq0 c =
    let header = header_of c.args.parser.now in
    let some : 0 < c.loop-more.more = omega (arith, c.loop-more-test.true) in
    let v = content_of c.in-Ok.packet in
    let sound : Plausible header c.loop-more.time_here v = c.is_plausible.ensures.0 (let no = c.if-not-is_plausible.false in search) in
    let none : length c.in-Ok.rest.now ≡ 0 = omega (arith, c.if-rest-eq0.true) in
    (λ yes. c.loop-more.invariant.up (row_end header c.loop-more.time_here c.loop-more.more c.loop-more.left.now c.in-Ok.rest.now v c.in-Ok.ensures.tells sound some none), λ row. refl)

pub returns-in-Err : goal.returns-in-Err
returns-in-Err c =
    let some : 0 < c.loop-more.more = omega (arith, c.loop-more-test.true) in
    (λ no. absurd cc, λ row. absurd (row_refused (header_of c.args.parser.now) c.loop-more.time_here c.loop-more.more c.loop-more.left.now c.in-Err._e c.in-Err.ensures.tells some (c.loop-more.invariant.down row)))
