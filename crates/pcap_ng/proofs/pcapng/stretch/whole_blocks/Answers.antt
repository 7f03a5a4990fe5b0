use Rattle.std.proofs.Common.{arith, inl, inr}
use Rattle.pcap_ng.proofs.Frames.{frame_long}
use Rattle.pcap_ng.proofs.Stretched.{more_taken}
use Rattle.pcap_ng.proofs.pcapng.stretch.whole_blocks.Goals as goal

pub returns-in-Some-clause-passes : goal.returns-in-Some-clause-passes
returns-in-Some-clause-passes c =
    let passed = c.in-Some.ensures.0 in
    let before = c.blocks_before_a_head-blocks in
    more_taken c.args.order c.args.bytes.now before.result.1.now c.in-Some.after.now before.result.0 passed.0 before.ensures.passes passed.1 passed.2

pub returns-in-Some-clause-ends : goal.returns-in-Some-clause-ends
returns-in-Some-clause-ends c =
    let passed = c.in-Some.ensures.0 in
    elim c.blocks_before_a_head-blocks.ensures.ends [
      | inl all ↦ absurd (c.if-blocks-most.false all)
      | inr none ↦ inr (λ b after text leaves. absurd (omega (arith, none passed.0 c.in-Some.after.now passed.1 passed.2, frame_long c.args.order b c.in-Some.after.now after text)))
    ]
