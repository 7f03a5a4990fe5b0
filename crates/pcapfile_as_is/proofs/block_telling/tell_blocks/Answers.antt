use Rattle.std.proofs.Common.{◌∙◌, refl, subst, arith, None, Some, inl, inr, Ok, Err}
use Rattle.std.proofs.KnownBytes.{Keeps-refl}
use Rattle.std.proofs.lemmas.Result.{err_from_is_err_and}
use Rattle.pcap_tolerant_captures.specs.Blocks.{as_is_format}
use Rattle.pcap_tolerant_captures.specs.ReaderAsIs.{state_of, stream_of, has_failed, lent_item}
use Rattle.pcap_tolerant_captures.proofs.Format.{as_is_lawful}
use Rattle.pcapfile_as_is.specs.Counts.{block_size}
use Rattle.pcapfile_as_is.specs.Texts.{WritesTold}
use Rattle.pcapfile_as_is.proofs.Tellings.{telling_none, telling_more, telling_stops, telling_torn, block_long}
use Rattle.pcapfile_as_is.proofs.block_telling.tell_blocks.Goals as goal

pub loop-turn-init : goal.loop-turn-init
loop-turn-init g c = record {
  telling = telling_none as_is_format (state_of c.args.reader.now) block_size _ _ _ c.args.counted.now c.requires.items c.requires.flawed c.requires.bytes;
  ready = c.requires.ready;
  unfailed = c.requires.unfailed;
  setting = refl;
}

pub returns-in-None-clause-told : goal.returns-in-None-clause-told
returns-in-None-clause-told g c =
    let next = rw c.loop-turn.invariant.ready at c.in-None.ensures.next in
    telling_stops as_is_format (state_of c.args.reader.now) block_size _ (state_of c.loop-turn.reader) (state_of c.next_header.new.self) _ (g.T.Read.remaining (stream_of c.loop-turn.reader)) (g.T.Read.remaining (stream_of c.next_header.new.self)) _ _ (has_failed c.next_header.new.self) c.args.most c.args.counted.now c.loop-turn.counted c.loop-turn.turn None
    c.loop-turn.invariant.telling c.in-None.ensures.stays (omega (arith, c.loop-turn-test.true)) (next.1, next.3, inl next.2)

pub returns-in-Some-Err-clause-told : goal.returns-in-Some-Err-clause-told
returns-in-Some-Err-clause-told g c =
    let next = rw (c.loop-turn.invariant.ready, c.in-Some-Err.field-0-is) at c.in-Some-Err.ensures.next in
    telling_stops as_is_format (state_of c.args.reader.now) block_size _ (state_of c.loop-turn.reader) (state_of c.next_header.new.self) _ (g.T.Read.remaining (stream_of c.loop-turn.reader)) (g.T.Read.remaining (stream_of c.next_header.new.self)) _ _ (has_failed c.next_header.new.self) c.args.most c.args.counted.now c.loop-turn.counted c.loop-turn.turn (Some c.in-Some-Err.error)
    c.loop-turn.invariant.telling (rw c.in-Some-Err.field-0-is at c.in-Some-Err.ensures.stays) (omega (arith, c.loop-turn-test.true)) (c.loop-turn-test.true, next.1, next.2)

pub returns-clause-told : goal.returns-clause-told
returns-clause-told g c =
    let left = g.T.Read.remaining (stream_of c.loop-turn.reader) in
    telling_stops as_is_format (state_of c.args.reader.now) block_size _ (state_of c.loop-turn.reader) (state_of c.loop-turn.reader) _ left left _ _ (has_failed c.loop-turn.reader) c.args.most c.args.counted.now c.loop-turn.counted c.loop-turn.turn None
    c.loop-turn.invariant.telling refl (omega (arith, c.loop-turn.auto.turn-end)) (c.loop-turn.invariant.unfailed, Keeps-refl left, inr (omega (arith, c.loop-turn.auto.turn-end, c.loop-turn-test.false)))

pub returns-in_err-told-in-Some-Ok-clause-told : goal.returns-in_err-told-in-Some-Ok-clause-told
unfolding as_is_format
returns-in_err-told-in-Some-Ok-clause-told g c =
    let is_told = g.P.BlockTeller.is_told in
    let setting = g.P.BlockTeller.setting c.args.teller.now in
    let left = g.T.Read.remaining (stream_of c.loop-turn.reader) in
    let now = g.T.Read.remaining (stream_of c.next_header.new.self) in
    let item = lent_item c.next_header.new.self c.in-Some-Ok.lent in
    let next = rw (c.loop-turn.invariant.ready, c.in-Some-Ok.field-0-is) at c.in-Some-Ok.ensures.next in
    let p = err_from_is_err_and c.from_residual.result c.from_residual.ensures.1 in
    let number = c.saturating_add-number.result in
    let exit = c.in_err-told-in-Some-Ok.field-0.0 in
    let mid = g.W.Write.contents c.loop-turn.output in
    let out = g.W.Write.contents c.put.new.output in
    let torn = subst (λ s. WritesTold (is_told s number c.loop-turn.counted.bytes item) mid out (Err exit)) c.loop-turn.invariant.setting c.in_err-told-in-Some-Ok.ensures.writes in
    rw (p.1, p.2) (telling_torn as_is_format (state_of c.args.reader.now) block_size (is_told setting) (state_of c.loop-turn.reader) (state_of c.next_header.new.self) _ left now _ mid out c.args.counted.now c.loop-turn.counted c.loop-turn.turn number item exit
    c.loop-turn.invariant.telling refl next.2 (omega (arith, c.saturating_add-number.ensures)) torn)

pub loop-turn-preserved : goal.loop-turn-preserved
unfolding as_is_format
loop-turn-preserved g c =
    let is_told = g.P.BlockTeller.is_told in
    let setting = g.P.BlockTeller.setting c.args.teller.now in
    let left = g.T.Read.remaining (stream_of c.loop-turn.reader) in
    let now = g.T.Read.remaining (stream_of c.next_header.new.self) in
    let item = lent_item c.next_header.new.self c.in-Some-Ok.lent in
    let next = rw (c.loop-turn.invariant.ready, c.in-Some-Ok.field-0-is) at c.in-Some-Ok.ensures.next in
    let number = c.saturating_add-number.result in
    let told = c.in_ok-told-in-Some-Ok.told in
    let mid = g.W.Write.contents c.loop-turn.output in
    let out = g.W.Write.contents c.put.new.output in
    let wrote = subst (λ s. WritesTold (is_told s number c.loop-turn.counted.bytes item) mid out (Ok told)) c.loop-turn.invariant.setting c.in_ok-told-in-Some-Ok.ensures.writes in
    record {
      telling = telling_more as_is_format (state_of c.args.reader.now) block_size (is_told setting) as_is_lawful (state_of c.loop-turn.reader) (state_of c.next_header.new.self) _ left now _ mid out
          c.args.counted.now c.loop-turn.counted c.add_item.new.self c.loop-turn.turn number item told c.loop-turn.invariant.telling refl next.2 (block_long (state_of c.loop-turn.reader) next.2.0 item next.2.1) (omega (arith, c.saturating_add-number.ensures))
          c.add_item.ensures.items c.add_item.ensures.flawed (omega (arith, c.add_item.ensures.bytes, c.from.ensures)) wrote;
      ready = next.0;
      unfailed = next.1;
      setting = c.in_ok-told-in-Some-Ok.ensures.same ∙ c.loop-turn.invariant.setting;
    }
