use Rattle.std.proofs.Common.{◌∙◌, ℕ, refl, subst, arith, None, Some, inl, inr, Ok, Err}
use Rattle.std.proofs.KnownBytes.{Keeps-refl}
use Rattle.std.proofs.lemmas.Result.{err_from_is_err_and}
use Rattle.pcap_items.specs.Reading.{HasCause, Takes, TakesAsked}
use Rattle.pcap_classic.specs.declared.pcap.header.PcapHeader.{PcapHeader}
use Rattle.pcap_classic.specs.Magic.{resolution_of}
use Rattle.pcap_tolerant.specs.ReaderAsIs.{stream_of, header_read, limit_of, has_failed, lent_packet}
use Rattle.pcap_tolerant.specs.AsIs.{as_it_is}
use Rattle.pcap_tolerant.specs.Run.{as_is_under}
use Rattle.pcap_tolerant.proofs.KnownPackets.{under_lawful}
use Rattle.pcapfile_as_is.specs.Counts.{has_flaw, size_of}
use Rattle.pcapfile_as_is.specs.Texts.{TellsBy, numbered}
use Rattle.pcapfile_as_is.proofs.Tellings.{telling_none, telling_more, telling_stops, telling_torn, as_is_long, put_as, tells_by}
use Rattle.pcapfile_as_is.proofs.telling.tell_packets.Goals as goal

pub loop-turn-init : goal.loop-turn-init
loop-turn-init g c = record {
  telling = telling_none _ tt size_of _ _ _ c.args.counted.now c.requires.items c.requires.flawed c.requires.bytes;
  ready = c.requires.ready;
  unfailed = c.requires.unfailed;
  header = refl;
  limit = refl;
  setting = refl;
}

pub returns-in-None-clause-told : goal.returns-in-None-clause-told
returns-in-None-clause-told g c =
    let next = rw c.loop-turn.invariant.ready at c.in-None.ensures.next in
    telling_stops _ tt size_of _ tt tt _ (g.T.Read.remaining (stream_of c.loop-turn.reader)) (g.T.Read.remaining (stream_of c.next_header.new.self)) _ _ (has_failed c.next_header.new.self) c.args.most c.args.counted.now c.loop-turn.counted c.loop-turn.turn None
    c.loop-turn.invariant.telling refl (omega (arith, c.loop-turn-test.true)) (next.1, next.3, inl next.2)

pub returns-in-Some-Err-clause-told : goal.returns-in-Some-Err-clause-told
returns-in-Some-Err-clause-told g c =
    let reader = c.args.reader.now in
    let left = g.T.Read.remaining (stream_of c.loop-turn.reader) in
    let now = g.T.Read.remaining (stream_of c.next_header.new.self) in
    let failed = has_failed c.next_header.new.self in
    let e = c.in-Some-Err.error in
    let next = rw (c.loop-turn.invariant.ready, c.in-Some-Err.field-0-is) at c.in-Some-Err.ensures.next in
    let under = subst (λ (h : PcapHeader). HasCause ((as_is_under (limit_of c.loop-turn.reader) h).says tt) left failed e × TakesAsked ((as_is_under (limit_of c.loop-turn.reader) h).says tt) left now) c.loop-turn.invariant.header (next.1, next.2) in
    let refused = subst (λ (l : ℕ). HasCause ((as_is_under l (header_read reader)).says tt) left failed e × TakesAsked ((as_is_under l (header_read reader)).says tt) left now) c.loop-turn.invariant.limit under in
    telling_stops _ tt size_of _ tt tt _ left now _ _ failed c.args.most c.args.counted.now c.loop-turn.counted c.loop-turn.turn (Some e)
    c.loop-turn.invariant.telling refl (omega (arith, c.loop-turn-test.true)) (c.loop-turn-test.true, refused.0, refused.1)

pub returns-clause-told : goal.returns-clause-told
returns-clause-told g c =
    let left = g.T.Read.remaining (stream_of c.loop-turn.reader) in
    telling_stops _ tt size_of _ tt tt _ left left _ _ (has_failed c.loop-turn.reader) c.args.most c.args.counted.now c.loop-turn.counted c.loop-turn.turn None
    c.loop-turn.invariant.telling refl (omega (arith, c.loop-turn.auto.turn-end)) (c.loop-turn.invariant.unfailed, Keeps-refl left, inr (omega (arith, c.loop-turn.auto.turn-end, c.loop-turn-test.false)))

pub returns-in_err-put-in-Some-Ok-clause-told : goal.returns-in_err-put-in-Some-Ok-clause-told
returns-in_err-put-in-Some-Ok-clause-told g c =
    let reader = c.args.reader.now in
    let r = resolution_of (header_read reader).magic_number in
    let text = g.P.Teller.text (g.P.Teller.setting c.args.teller.now) r in
    let left = g.T.Read.remaining (stream_of c.loop-turn.reader) in
    let now = g.T.Read.remaining (stream_of c.next_header.new.self) in
    let packet = lent_packet c.next_header.new.self c.in-Some-Ok.head in
    let next = rw (c.loop-turn.invariant.ready, c.in-Some-Ok.field-0-is) at c.in-Some-Ok.ensures.next in
    let under = subst (λ (h : PcapHeader). Takes ((as_is_under (limit_of c.loop-turn.reader) h).says tt) left now packet) c.loop-turn.invariant.header next.2 in
    let took = subst (λ (l : ℕ). Takes ((as_is_under l (header_read reader)).says tt) left now packet) c.loop-turn.invariant.limit under in
    let p = err_from_is_err_and c.from_residual.result c.from_residual.ensures.1 in
    let number = c.saturating_add-number.result in
    let told = numbered (has_flaw packet) in
    let torn = put_as g.P.Teller.text (g.P.Teller.setting c.loop-turn.teller) (g.P.Teller.setting c.args.teller.now) c.ts_resolution-ts_resolution.result r number c.loop-turn.counted.bytes (as_it_is c.packet-packet.result) packet
    (g.W.Write.contents c.loop-turn.output) (g.W.Write.contents c.put.new.output) (Err c.in_err-put-in-Some-Ok.field-0.0) c.loop-turn.invariant.setting c.ts_resolution-ts_resolution.ensures c.packet-packet.ensures c.in_err-put-in-Some-Ok.ensures.writes in
    rw (p.1, p.2) (telling_torn (as_is_under (limit_of reader) (header_read reader)) tt size_of (TellsBy has_flaw text) tt tt _ left now _ (g.W.Write.contents c.loop-turn.output) (g.W.Write.contents c.put.new.output) c.args.counted.now c.loop-turn.counted c.loop-turn.turn number packet c.in_err-put-in-Some-Ok.field-0.0
    c.loop-turn.invariant.telling refl took (omega (arith, c.saturating_add-number.ensures)) (told, tells_by has_flaw text number c.loop-turn.counted.bytes packet told (g.W.Write.contents c.loop-turn.output) (g.W.Write.contents c.put.new.output) (Err c.in_err-put-in-Some-Ok.field-0.0) refl torn))

pub loop-turn-preserved : goal.loop-turn-preserved
loop-turn-preserved g c =
    let reader = c.args.reader.now in
    let r = resolution_of (header_read reader).magic_number in
    let text = g.P.Teller.text (g.P.Teller.setting c.args.teller.now) r in
    let left = g.T.Read.remaining (stream_of c.loop-turn.reader) in
    let now = g.T.Read.remaining (stream_of c.next_header.new.self) in
    let packet = lent_packet c.next_header.new.self c.in-Some-Ok.head in
    let next = rw (c.loop-turn.invariant.ready, c.in-Some-Ok.field-0-is) at c.in-Some-Ok.ensures.next in
    let under = subst (λ (h : PcapHeader). Takes ((as_is_under (limit_of c.loop-turn.reader) h).says tt) left now packet) c.loop-turn.invariant.header next.2 in
    let took = subst (λ (l : ℕ). Takes ((as_is_under l (header_read reader)).says tt) left now packet) c.loop-turn.invariant.limit under in
    let number = c.saturating_add-number.result in
    let told = numbered (has_flaw packet) in
    let wrote = put_as g.P.Teller.text (g.P.Teller.setting c.loop-turn.teller) (g.P.Teller.setting c.args.teller.now) c.ts_resolution-ts_resolution.result r number c.loop-turn.counted.bytes (as_it_is c.packet-packet.result) packet
    (g.W.Write.contents c.loop-turn.output) (g.W.Write.contents c.put.new.output) (Ok tt) c.loop-turn.invariant.setting c.ts_resolution-ts_resolution.ensures c.packet-packet.ensures c.in_ok-put-in-Some-Ok.ensures.writes in
    record {
      telling = telling_more (as_is_under (limit_of reader) (header_read reader)) tt size_of (TellsBy has_flaw text) (under_lawful (limit_of reader) (header_read reader)) tt tt _ left now _ (g.W.Write.contents c.loop-turn.output) (g.W.Write.contents c.put.new.output)
          c.args.counted.now c.loop-turn.counted c.add.new.self c.loop-turn.turn number packet told c.loop-turn.invariant.telling refl took (as_is_long (limit_of reader) (header_read reader) took.0 packet took.1) (omega (arith, c.saturating_add-number.ensures))
          c.add.ensures.items c.add.ensures.flawed c.add.ensures.bytes (tells_by has_flaw text number c.loop-turn.counted.bytes packet told (g.W.Write.contents c.loop-turn.output) (g.W.Write.contents c.put.new.output) (Ok tt) refl wrote);
      ready = next.0;
      unfailed = next.1;
      header = c.in-Some-Ok.ensures.header ∙ c.loop-turn.invariant.header;
      limit = c.in-Some-Ok.ensures.limit ∙ c.loop-turn.invariant.limit;
      setting = c.in_ok-put-in-Some-Ok.ensures.same ∙ c.loop-turn.invariant.setting;
    }
