use Rattle.std.proofs.Common.{◌++◌, ◌∷◌, [], ap, arith, refl, inl, inr}
use Rattle.pcap_core.specs.Faults.{Invalid}
use Rattle.pcap_options.proofs.ReadOptions.{is_empty, not_empty}
use Rattle.pcap_tolerant_blocks.specs.Flaws.{said_of}
use Rattle.pcap_tolerant_blocks.specs.OptionsAsIs.{flaws_or_none, judged_of}
use Rattle.pcap_tolerant_blocks.proofs.NextFlaw.{after_option, first_flaw, last_flaw, no_flaw, sound_more}
use Rattle.pcap_tolerant_blocks.proofs.flaw_by_flaw.find_flaw.Goals as goal

pub returns-in-Err-clause-flaws : goal.returns-in-Err-clause-flaws
returns-in-Err-clause-flaws g c =
    let so_far = c.loop-left.invariant.so_far in
    let left = c.loop-left.left.now in
    last_flaw g.B.ByteOrder.number_of g.O.PcapNgOption.kind so_far.0 c.args.options.now left (Invalid c.in-Err.rule) (said_of c.of_body.result) so_far.1 (not_empty left c.loop-left-test.ensures) c.in-Err.ensures.tells c.of_body.ensures

pub returns-in_default-clause-flaws : goal.returns-in_default-clause-flaws
returns-in_default-clause-flaws g c =
    let so_far = c.loop-left.invariant.so_far in
    no_flaw g.B.ByteOrder.number_of g.O.PcapNgOption.kind so_far.0 c.args.options.now c.loop-left.left.now c.in-Ok.read.0.now so_far.1 (inl (rw c.in_default.is at c.in-Ok.ensures.tells))

pub returns-in-Some-flaw-clause-flaws : goal.returns-in-Some-flaw-clause-flaws
returns-in-Some-flaw-clause-flaws g c =
    let so_far = c.loop-left.invariant.so_far in
    let text = rw c.in-Some.is at c.in-Ok.ensures.tells in
    first_flaw g.B.ByteOrder.number_of g.O.PcapNgOption.kind so_far.0 c.args.options.now c.loop-left.left.now c.in-Ok.read.0.now (judged_of g.O.HoldsEntry.entry c.in-Some.read) (said_of c.in-Some-flaw.flaw)
    so_far.1 text (ap flaws_or_none c.in-Some-flaw.is)

pub loop-left-preserved : goal.loop-left-preserved
loop-left-preserved g c =
    let order = g.B.ByteOrder.number_of in
    let kind = g.O.PcapNgOption.kind in
    let so_far = c.loop-left.invariant.so_far in
    let option = judged_of g.O.HoldsEntry.entry c.in-Some.read in
    let text = rw c.in-Some.is at c.in-Ok.ensures.tells in
    let left = c.loop-left.left.now in
    let after = c.in-Ok.read.0.now in
    record {
      so_far = (so_far.0 ++ option.entry ∷ [], sound_more order kind so_far.0 c.args.options.now left after option so_far.1 text (ap flaws_or_none c.in_default-flaw.is));
      within = omega (arith, c.loop-left.invariant.within, after_option order kind option left after text);
    }

pub returns-clause-flaws : goal.returns-clause-flaws
returns-clause-flaws g c =
    let so_far = c.loop-left.invariant.so_far in
    no_flaw g.B.ByteOrder.number_of g.O.PcapNgOption.kind so_far.0 c.args.options.now c.loop-left.left.now [] so_far.1 (inr (is_empty c.loop-left.left.now c.loop-left-test.ensures, tt, refl))
