use Rattle.std.proofs.Common.{◌≡◌, true, false, length, ◌∙◌, arith}
use Rattle.pcap_altered.proofs.Transfers.{ended, recognized, refused}
use Rattle.pcap_altered.proofs.line_ends.is_transferred.Goals as goal

pub returns-then-not-is_after : goal.returns-then-not-is_after
returns-then-not-is_after c =
    let same : c.in-Some.byte.now ≡ 10 = omega (arith, c.if-byte-eq-LINE_FEED.true) in
    let no : c.loop-byte.is_after ≡ false = let is = c.if-not-is_after.true in search in
    recognized c.args.bytes.now false (c.loop-byte.invariant ∙ refused c.loop-byte.is_after c.in-Some.byte.now c.in-Some.rest.now c.loop-byte.left.now c.in-Some.ensures.cases.0 same no)

pub returns : goal.returns
returns c =
    let none : length c.loop-byte.left.now ≡ 0 = omega (arith, c.in_default.ensures.cases) in
    recognized c.args.bytes.now true (c.loop-byte.invariant ∙ ended c.loop-byte.is_after c.loop-byte.left.now none)
