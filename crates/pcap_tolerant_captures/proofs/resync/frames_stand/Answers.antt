use Rattle.std.proofs.Common.{◌≡◌, ◌<◌, ◌-◌, length, refl, sym, subst, arith}
use Rattle.pcap_core.specs.declared.common.Endianness.{Endianness}
use Rattle.pcap_ng.specs.Frames.{framed_of}
use Rattle.pcap_tolerant_captures.specs.Resync.{FrameRow, HasRoom}
use Rattle.pcap_tolerant_captures.proofs.FrameRows.{frames_down, frames_up, frames_end, frames_refused, no_room}
use Rattle.pcap_tolerant_captures.proofs.resync.frames_stand.Goals as goal

pub returns-then-not-has_room : goal.returns-then-not-has_room
returns-then-not-has_room c =
    let l = c.loop-more in
    let some : 0 < l.more = omega (arith, c.loop-more-test.true) in
    let none : HasRoom (framed_of c.in-Ok.block) → ⊥ = λ room. let is = c.has_room.ensures.1 room in absurd cc in
    (λ no. absurd cc, λ row. absurd (no_room l.order_here l.more l.left.now c.in-Ok.rest.now (framed_of c.in-Ok.block) c.in-Ok.ensures.tells some none (l.invariant.down row)))

pub returns-then-rest-eq0 : goal.returns-then-rest-eq0
returns-then-rest-eq0 c =
    let l = c.loop-more in
    let some : 0 < l.more = omega (arith, c.loop-more-test.true) in
    let room : HasRoom (framed_of c.in-Ok.block) = c.has_room.ensures.0 cc in
    let none : length c.in-Ok.rest.now ≡ 0 = omega (arith, c.if-rest-eq0.true) in
    (λ yes. l.invariant.up (frames_end l.order_here l.more l.left.now c.in-Ok.rest.now (framed_of c.in-Ok.block) c.in-Ok.ensures.tells some room none), λ row. refl)

pub loop-more-preserved : goal.loop-more-preserved
loop-more-preserved c =
    let l = c.loop-more in
    let rest = c.in-Ok.rest.now in
    let b = framed_of c.in-Ok.block in
    let some : 0 < l.more = omega (arith, c.loop-more-test.true) in
    let room : HasRoom b = c.has_room.ensures.0 cc in
    let on : length rest ≡ 0 → ⊥ = λ e. omega (arith, e, c.if-rest-eq0.false) in
    let order : c.endianness-order_here.result ≡ b.endianness = c.endianness-order_here.ensures in
    record {
      down = λ row. subst (λ (e : Endianness). FrameRow e (l.more - 1) rest) (sym order) (frames_down l.order_here l.more l.left.now rest b c.in-Ok.ensures.tells some on (l.invariant.down row));
      up = λ row. l.invariant.up (frames_up l.order_here l.more l.left.now rest b c.in-Ok.ensures.tells some room (subst (λ (e : Endianness). FrameRow e (l.more - 1) rest) order row));
    }

pub returns-in-Err : goal.returns-in-Err
returns-in-Err c =
    let l = c.loop-more in
    let some : 0 < l.more = omega (arith, c.loop-more-test.true) in
    (λ no. absurd cc, λ row. absurd (frames_refused l.order_here l.more l.left.now c.in-Err._e c.in-Err.ensures.tells some (l.invariant.down row)))
