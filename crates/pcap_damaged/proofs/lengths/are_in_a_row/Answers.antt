use Rattle.std.proofs.Common.{◌≡◌, ◌<◌, length, refl, arith}
use Rattle.pcap_classic.specs.Parser.{header_of}
use Rattle.pcap_tolerant.specs.AsIs.{as_it_is}
use Rattle.pcap_damaged.specs.Lengths.{HasNumbers}
use Rattle.pcap_damaged.proofs.ByLength.{follow_down, follow_up, follow_end, follow_refused, follow_zeros}
use Rattle.pcap_damaged.proofs.lengths.are_in_a_row.Goals as goal

pub returns-then-not-has_numbers : goal.returns-then-not-has_numbers
returns-then-not-has_numbers c =
    let some : 0 < c.loop-more.more = omega (arith, c.loop-more-test.true) in
    let none : HasNumbers (as_it_is c.in-Ok.packet) → ⊥ = λ has. (let is = c.has_numbers.ensures.1 has in absurd cc) in
    (λ no. absurd cc, λ row. absurd (follow_zeros (header_of c.args.parser.now) c.loop-more.more c.loop-more.left.now c.in-Ok.rest.now (as_it_is c.in-Ok.packet) c.in-Ok.ensures.tells none some (c.loop-more.invariant.down row)))

pub returns-then-rest-eq0 : goal.returns-then-rest-eq0
returns-then-rest-eq0 c =
    let some : 0 < c.loop-more.more = omega (arith, c.loop-more-test.true) in
    let none : length c.in-Ok.rest.now ≡ 0 = omega (arith, c.if-rest-eq0.true) in
    let has : HasNumbers (as_it_is c.in-Ok.packet) = c.has_numbers.ensures.0 cc in
    (λ yes. c.loop-more.invariant.up (follow_end (header_of c.args.parser.now) c.loop-more.more c.loop-more.left.now c.in-Ok.rest.now (as_it_is c.in-Ok.packet) c.in-Ok.ensures.tells has some none), λ row. refl)

pub loop-more-preserved : goal.loop-more-preserved
loop-more-preserved c =
    let header = header_of c.args.parser.now in
    let some : 0 < c.loop-more.more = omega (arith, c.loop-more-test.true) in
    let on : length c.in-Ok.rest.now ≡ 0 → ⊥ = λ e. omega (arith, e, c.if-rest-eq0.false) in
    let has : HasNumbers (as_it_is c.in-Ok.packet) = c.has_numbers.ensures.0 cc in
    let v = as_it_is c.in-Ok.packet in
    record {
      down = λ row. follow_down header c.loop-more.more c.loop-more.left.now c.in-Ok.rest.now v c.in-Ok.ensures.tells some on (c.loop-more.invariant.down row);
      up = λ row. c.loop-more.invariant.up (follow_up header c.loop-more.more c.loop-more.left.now c.in-Ok.rest.now v c.in-Ok.ensures.tells has some row);
    }

pub returns-in-Err : goal.returns-in-Err
returns-in-Err c =
    let some : 0 < c.loop-more.more = omega (arith, c.loop-more-test.true) in
    (λ no. absurd cc, λ row. absurd (follow_refused (header_of c.args.parser.now) c.loop-more.more c.loop-more.left.now c.in-Err._e c.in-Err.ensures.tells some (c.loop-more.invariant.down row)))
