use Rattle.std.proofs.Common.{◌+◌, arith}
use Rattle.pcap_ng.proofs.Frames.{frame_long}
use Rattle.pcap_ng.proofs.Stretched.{tearing_count, tearing_fewer, tearing_none, tearing_goes_on, tearing_more, tearing_ends, text_within}
use Rattle.pcap_ng.proofs.pcapng.stretch.torn_block.Goals as goal

pub loop-after-init : goal.loop-after-init
loop-after-init c = record { so_far = tearing_none c.args.order c.args.stretch.now c.args.gone c.requires.stretch.0 c.requires.stretch.1 }

pub pass_block-requires : goal.pass_block-requires
pass_block-requires c =
    let next = tearing_goes_on c.args.order c.args.stretch.now c.loop-after.rest.now c.args.gone c.loop-after.blocks c.loop-after.invariant.so_far c.requires.torn in
    omega (arith, frame_long c.args.order next.0 c.loop-after.rest.now next.1 next.2)

pub overflow_sub-used : goal.overflow_sub-used
overflow_sub-used c =
    let passed = c.in-Some.ensures.0 in
    omega (arith, tearing_count c.args.order c.args.stretch.now c.loop-after.rest.now c.args.gone c.loop-after.blocks c.loop-after.invariant.so_far, text_within c.args.order passed.0 c.loop-after.rest.now c.in-Some.after.now passed.1)

pub returns-then-gone-used : goal.returns-then-gone-used
returns-then-gone-used c =
    let passed = c.in-Some.ensures.0 in
    tearing_ends c.args.order c.args.stretch.now c.loop-after.rest.now c.in-Some.after.now c.args.gone c.loop-after.blocks passed.0 c.loop-after.invariant.so_far passed.1 passed.2 c.if-gone-used.true

pub overflow_add-blocks : goal.overflow_add-blocks
overflow_add-blocks c =
    let passed = c.in-Some.ensures.0 in
    let so_far = tearing_more c.args.order c.args.stretch.now c.loop-after.rest.now c.in-Some.after.now c.args.gone c.loop-after.blocks passed.0 c.loop-after.invariant.so_far passed.1 passed.2 c.if-gone-used.false in
    omega (arith, tearing_fewer c.args.order c.args.stretch.now c.in-Some.after.now c.args.gone (c.loop-after.blocks + 1) so_far, c.ranges.gone.fits)

pub loop-after-preserved : goal.loop-after-preserved
loop-after-preserved c =
    let passed = c.in-Some.ensures.0 in
    record { so_far = tearing_more c.args.order c.args.stretch.now c.loop-after.rest.now c.in-Some.after.now c.args.gone c.loop-after.blocks passed.0 c.loop-after.invariant.so_far passed.1 passed.2 c.if-gone-used.false }

pub returns : goal.returns
returns c =
    let next = tearing_goes_on c.args.order c.args.stretch.now c.loop-after.rest.now c.args.gone c.loop-after.blocks c.loop-after.invariant.so_far c.requires.torn in
    absurd (omega (arith, c.in_default.ensures next.0 next.1 next.2 next.3))
