use Rattle.std.proofs.Common.{◌-◌, ◌++◌, ◌∙◌, ℕ, List, length, take, ap, refl, append_assoc, Some}
use Rattle.pcap_core.specs.Faults.{Invalid}
use Rattle.pcap_options.proofs.ReadOptions.{not_empty}
use Rattle.pcap_tolerant_blocks.specs.OptionsAsIs.{flaws_or_none, judged_of}
use Rattle.pcap_tolerant_blocks.specs.SoundOptions.{PutsFirst, PutsSome, are_none, text_if}
use Rattle.pcap_tolerant_blocks.proofs.Pieces.{option_more, pieces_end, puts_first, puts_some}
use Rattle.pcap_tolerant_blocks.proofs.sound.put_sound.Goals as goal
use Rattle.pcap_raw_options.proofs.RawRead.{holds_on_err}

pub returns-in-Err-clause-put : goal.returns-in-Err-clause-put
returns-in-Err-clause-put g c =
    let so_far = c.loop-left.invariant in
    let left = c.loop-left.left.now in
    (so_far.0, pieces_end g.B.ByteOrder.number_of g.O.PcapNgOption.kind c.args.slice.now left left so_far.0 (Some (Invalid c.in-Err._rule)) so_far.1 (λ over. not_empty left c.loop-left-test.ensures, c.in-Err.ensures.tells, refl), so_far.2)

pub loop-left-preserved : goal.loop-left-preserved
loop-left-preserved g c =
    let order = g.B.ByteOrder.number_of in
    let kind = g.O.PcapNgOption.kind in
    let so_far = c.loop-left.invariant in
    let left = c.loop-left.left.now in
    let after = c.in-Ok.read.0.now in
    let read = c.in-Some.read in
    let text = rw c.in-Some.is at c.in-Ok.ensures.tells in
    let put = text_if (are_none (flaws_or_none read.flaw)) (take (length left - length after) left) in (
      so_far.0 ++ put,
      option_more order kind c.args.slice.now left after so_far.0 (judged_of g.O.HoldsEntry.entry read) so_far.1 text,
      c.in_ok-put_if_sound.ensures.put ∙ ap (λ (l : List ℕ). l ++ put) so_far.2 ∙ append_assoc c.args.out.now.items so_far.0 put,
    )

pub returns-in_err-put_if_sound-clause-memory : goal.returns-in_err-put_if_sound-clause-memory
returns-in_err-put_if_sound-clause-memory g c =
    let order = g.B.ByteOrder.number_of in
    let kind = g.O.PcapNgOption.kind in
    let so_far = c.loop-left.invariant in
    let text = rw c.in-Some.is at c.in-Ok.ensures.tells in
    let some = puts_some order kind c.args.slice.now c.loop-left.left.now c.in-Ok.read.0.now so_far.0 (judged_of g.O.HoldsEntry.entry c.in-Some.read) so_far.1 text (ap flaws_or_none c.in_err-put_if_sound.ensures.memory) in
    holds_on_err (PutsSome order kind c.args.slice.now) some c.from_residual.result

pub returns-in_err-put_if_sound-clause-begun : goal.returns-in_err-put_if_sound-clause-begun
returns-in_err-put_if_sound-clause-begun g c =
    let order = g.B.ByteOrder.number_of in
    let kind = g.O.PcapNgOption.kind in
    let so_far = c.loop-left.invariant in
    let s = c.args.slice.now in
    let before = c.args.out.now.items in
    let after = c.put_if_sound.new.out.items in
    let first = puts_first order kind s c.loop-left.left.now so_far.0 before c.loop-left.out.items after so_far.1 so_far.2 c.in_err-put_if_sound.ensures.stays in
    holds_on_err (PutsFirst order kind s before after) first c.from_residual.result
