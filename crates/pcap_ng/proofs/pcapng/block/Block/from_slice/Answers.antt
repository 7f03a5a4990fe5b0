use Rattle.std.proofs.Common.{arith, inr, subst, sym}
use Rattle.pcap_core.specs.declared.rules.Rule.{Rule}
use Rattle.pcap_core.specs.Faults.{Invalid}
use Rattle.pcap_core.proofs.Refusals.{named_tells}
use Rattle.pcap_ng.specs.Frames.{framed_of, FrameSays, FrameFault, in_head, unequal}
use Rattle.pcap_ng.proofs.Frames.{head_long}
use Rattle.pcap_ng.proofs.StatedFrames.{tail_text, tail_differs}
use Rattle.pcap_ng.proofs.pcapng.block.Block.from_slice.Goals as goal

pub returns-in_err-head-clause-tells : goal.returns-in_err-head-clause-tells
returns-in_err-head-clause-tells c =
    let rule = c.in_err-head.field-0.0 in
    named_tells ⊥ (FrameSays c.args.order c.args.slice.now) framed_of rule c.from_residual.result (in_head rule c.in_err-head.ensures) c.from_residual.ensures.1

pub returns-then-slice-len-clause-tells : goal.returns-then-slice-len-clause-tells
returns-then-slice-len-clause-tells c =
    let head = c.in_ok-head.head in
    inr (record {
      number = head.number;
      len = head.len;
      own = head.endianness;
      after = c.in_ok-head.after.now;
      head = c.in_ok-head.ensures.0;
      good = c.in_ok-head.ensures.1;
      some = omega arith;
      missing = omega arith;
    })

pub of_head-requires-clause-whole : goal.of_head-requires-clause-whole
of_head-requires-clause-whole c =
    let head = c.in_ok-head.head in
    let long = head_long c.args.order head.number head.len head.endianness c.args.slice.now c.in_ok-head.after.now c.in_ok-head.ensures.0 in
    omega (arith, long)

pub returns-in_err-of_head-clause-tells : goal.returns-in_err-of_head-clause-tells
returns-in_err-of_head-clause-tells c =
    let head = c.in_ok-head.head in
    let s = c.args.slice.now in
    let rule = c.in_err-of_head.field-0.0 in
    let differ = tail_differs c.args.order head s c.in_ok-head.after.now c.in_ok-head.ensures.0 c.in_ok-head.ensures.1 c.in_err-of_head.ensures.tells.1 in
    let fault : FrameFault c.args.order s (Invalid rule) = subst (λ (r : Rule). FrameFault c.args.order s (Invalid r)) (sym c.in_err-of_head.ensures.tells.0) (unequal differ) in
    named_tells ⊥ (FrameSays c.args.order s) framed_of rule c.from_residual-in_err-of_head.result fault c.from_residual-in_err-of_head.ensures.1

pub returns-clause-tells : goal.returns-clause-tells
returns-clause-tells c =
    let head = c.in_ok-head.head in
    let x = c.in_ok-of_head in
    tail_text c.args.order head c.args.slice.now c.in_ok-head.after.now c.in_ok-head.ensures.0 c.in_ok-head.ensures.1 (framed_of x.field-0.1) x.field-0.0.now x.ensures.tells
