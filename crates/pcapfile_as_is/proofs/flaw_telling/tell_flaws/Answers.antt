use Rattle.std.proofs.Common.{◌≡◌, ◌∙◌, ℕ, List, [], refl, sym, ap, subst, arith, None, Some, inl, inr, Err, Ok}
use Rattle.std.proofs.KnownBytes.{Keeps-refl}
use Rattle.std.proofs.lemmas.Result.{err_from_is_err_and}
use Rattle.pcap_ng.specs.Frames.{Framed}
use Rattle.pcap_ng.specs.Lent.{framed_around}
use Rattle.pcap_tolerant_captures.specs.Blocks.{Item, AsIsText, as_is_format}
use Rattle.pcap_tolerant_captures.specs.Outlines.{known_order}
use Rattle.pcap_tolerant_captures.specs.ReaderAsIs.{state_of, stream_of, has_failed, text_of, body_of}
use Rattle.pcap_tolerant_captures.specs.State.{State}
use Rattle.pcap_tolerant_captures.proofs.Format.{as_is_lawful}
use Rattle.pcapfile_as_is.specs.BlockLines.{block_lines}
use Rattle.pcapfile_as_is.specs.Counts.{block_size, is_flawed}
use Rattle.pcapfile_as_is.specs.Texts.{TellsBy}
use Rattle.pcapfile_as_is.proofs.Tellings.{telling_none, telling_more, telling_stops, telling_torn, block_long}
use Rattle.pcapfile_as_is.proofs.Outlined.{cause_same, asked_same, text_same}
use Rattle.pcapfile_as_is.proofs.flaw_telling.tell_flaws.Goals as goal

pub loop-turn-init : goal.loop-turn-init
loop-turn-init g c = record {
  telling = λ q same. (q, same, telling_none as_is_format q block_size _ _ _ c.args.counted.now c.requires.items c.requires.flawed c.requires.bytes);
  ready = c.requires.ready;
  unfailed = c.requires.unfailed;
}

pub returns-in-None-clause-told : goal.returns-in-None-clause-told
returns-in-None-clause-told g c = λ q same.
    let so_far = c.loop-turn.invariant.telling q same in
    let next = rw c.loop-turn.invariant.ready at c.in-None.ensures.next in
    record {
      reached = so_far.0;
      knows = so_far.1 ∙ ap known_order (sym c.in-None.ensures.leads);
      told = telling_stops as_is_format q block_size _ so_far.0 so_far.0 _ _ _ _ _ (has_failed c.next_outline.new.self) c.args.most c.args.counted.now c.loop-turn.counted c.loop-turn.turn None
          so_far.2 refl (omega (arith, c.loop-turn-test.true)) (next.1, next.3, inl next.2);
    }

pub returns-in-Some-Err-clause-told : goal.returns-in-Some-Err-clause-told
returns-in-Some-Err-clause-told g c = λ q same.
    let so_far = c.loop-turn.invariant.telling q same in
    let here = state_of c.loop-turn.reader in
    let given = rw c.in-Some-Err.field-0-is at c.in-Some-Err.ensures in
    let next = rw c.loop-turn.invariant.ready at given.next in
    let left = g.T.Read.remaining (stream_of c.loop-turn.reader) in
    let now = g.T.Read.remaining (stream_of c.next_outline.new.self) in
    let cause = cause_same here so_far.0 (sym so_far.1) left (has_failed c.next_outline.new.self) c.in-Some-Err.error next.1 in
    let asked = asked_same here so_far.0 (sym so_far.1) left now next.2 in
    record {
      reached = so_far.0;
      knows = so_far.1 ∙ ap known_order (sym given.leads);
      told = telling_stops as_is_format q block_size _ so_far.0 so_far.0 _ left now _ _ (has_failed c.next_outline.new.self) c.args.most c.args.counted.now c.loop-turn.counted c.loop-turn.turn (Some c.in-Some-Err.error)
          so_far.2 refl (omega (arith, c.loop-turn-test.true)) (c.loop-turn-test.true, cause, asked);
    }

pub returns-clause-told : goal.returns-clause-told
returns-clause-told g c = λ q same.
    let so_far = c.loop-turn.invariant.telling q same in
    let left = g.T.Read.remaining (stream_of c.loop-turn.reader) in
    record {
      reached = so_far.0;
      knows = so_far.1;
      told = telling_stops as_is_format q block_size _ so_far.0 so_far.0 _ left left _ _ (has_failed c.loop-turn.reader) c.args.most c.args.counted.now c.loop-turn.counted c.loop-turn.turn None
          so_far.2 refl (omega (arith, c.loop-turn.auto.turn-end)) (c.loop-turn.invariant.unfailed, Keeps-refl left, inr (omega (arith, c.loop-turn.auto.turn-end, c.loop-turn-test.false)));
    }

pub returns-in_err-told-in-Some-Ok-clause-told : goal.returns-in_err-told-in-Some-Ok-clause-told
unfolding as_is_format
returns-in_err-told-in-Some-Ok-clause-told g c = λ q same.
    let so_far = c.loop-turn.invariant.telling q same in
    let here = state_of c.loop-turn.reader in
    let given = rw c.in-Some-Ok.field-0-is at c.in-Some-Ok.ensures in
    let next = rw c.loop-turn.invariant.ready at given.next in
    let header = c.in-Some-Ok.header in
    let alike = text_same here so_far.0 (sym so_far.1) (framed_around header (body_of c.next_outline.new.self)) given.led next.2.0 [] next.2.1 in
    let moved = subst (λ (l : List ℕ). AsIsText so_far.0 (record { block = framed_around header l; led = alike.0 }) next.2.0 []) (sym c.body.ensures) alike.3 in
    let item : Item = record { block = framed_around header c.body.result.now; led = alike.0 } in
    let left = g.T.Read.remaining (stream_of c.loop-turn.reader) in
    let now = g.T.Read.remaining (stream_of c.next_outline.new.self) in
    let mid = g.W.Write.contents c.loop-turn.output in
    let out = g.W.Write.contents c.put_block.new.output in
    let exit = c.in_err-told-in-Some-Ok.field-0.0 in
    let number = c.saturating_add-number.result in
    let p = err_from_is_err_and c.from_residual.result c.from_residual.ensures.1 in
    rw (p.1, p.2) (record {
      reached = alike.0.after;
      knows = alike.2 ∙ sym given.leads;
      told = telling_torn as_is_format q block_size (TellsBy is_flawed (block_lines c.args.prefix.now)) so_far.0 alike.0.after _ left now _ mid out c.args.counted.now c.loop-turn.counted c.loop-turn.turn number item exit
          so_far.2 refl (next.2.0, moved, next.2.2) (omega (arith, c.saturating_add-number.ensures)) (c.in_err-told-in-Some-Ok.ensures so_far.0 alike.0 next.2.0 moved);
    })

pub loop-turn-preserved : goal.loop-turn-preserved
unfolding as_is_format
loop-turn-preserved g c =
    let here = state_of c.loop-turn.reader in
    let given = rw c.in-Some-Ok.field-0-is at c.in-Some-Ok.ensures in
    let next = rw c.loop-turn.invariant.ready at given.next in
    let header = c.in-Some-Ok.header in
    let left = g.T.Read.remaining (stream_of c.loop-turn.reader) in
    let now = g.T.Read.remaining (stream_of c.next_outline.new.self) in
    let mid = g.W.Write.contents c.loop-turn.output in
    let out = g.W.Write.contents c.put_block.new.output in
    let number = c.saturating_add-number.result in
    let told = c.in_ok-told-in-Some-Ok.told in
    record {
      telling = λ q same.
          let so_far = c.loop-turn.invariant.telling q same in
          let alike = text_same here so_far.0 (sym so_far.1) (framed_around header (body_of c.next_outline.new.self)) given.led next.2.0 [] next.2.1 in
          let moved = subst (λ (l : List ℕ). AsIsText so_far.0 (record { block = framed_around header l; led = alike.0 }) next.2.0 []) (sym c.body.ensures) alike.3 in
          let item : Item = record { block = framed_around header c.body.result.now; led = alike.0 } in (
            alike.0.after,
            alike.2 ∙ sym given.leads,
            telling_more as_is_format q block_size (TellsBy is_flawed (block_lines c.args.prefix.now)) as_is_lawful so_far.0 alike.0.after _ left now _ mid out
                c.args.counted.now c.loop-turn.counted c.add_item.new.self c.loop-turn.turn number item told so_far.2 refl (next.2.0, moved, next.2.2) (block_long so_far.0 next.2.0 item moved) (omega (arith, c.saturating_add-number.ensures))
                c.add_item.ensures.items c.add_item.ensures.flawed (omega (arith, c.add_item.ensures.bytes, c.from.ensures)) (c.in_ok-told-in-Some-Ok.ensures so_far.0 alike.0 next.2.0 moved),
          );
      ready = next.0;
      unfailed = next.1;
    }
