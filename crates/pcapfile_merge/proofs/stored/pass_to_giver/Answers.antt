use Rattle.std.proofs.Common.{arith, refl, sym, ap, length, ◌∙◌, inl, inr, true, false}
use Rattle.pcap_blocks.specs.SectionHeader.{Section}
use Rattle.pcap_file.specs.Placing.{source_of}
use Rattle.pcap_ng.specs.Reader.{lent_item}
use Rattle.pcap_file.proofs.Placing.{gives_next, gives_none, gives_refused}
use Rattle.pcapfile_merge.specs.Keeping.{progress_with}
use Rattle.pcapfile_merge.proofs.Turning.{counted_there, given_there, passed_more, passed_none}
use Rattle.pcapfile_merge.proofs.stored.pass_to_giver.Goals as goal

pub loop-turn-init : goal.loop-turn-init
loop-turn-init g c = passed_none (progress_with c.args.kept.now (source_of g.R.Read.remaining c.args.reader.now)) (c.requires, c.args.reader.now.unfailed c.requires)

pub returns-in-None : goal.returns-in-None
returns-in-None g c =
    let at = source_of g.R.Read.remaining c.loop-turn.reader in
    let reader = c.next_header.new.self in
    (progress_with c.loop-turn.kept at, c.loop-turn.invariant.passes, inl (refl, gives_none (lent_item reader) at (source_of g.R.Read.remaining reader) c.in-None.ensures.stays c.in-None.ensures.next))

pub returns-in-Some-Err : goal.returns-in-Some-Err
returns-in-Some-Err g c =
    let at = source_of g.R.Read.remaining c.loop-turn.reader in
    let reader = c.next_header.new.self in
    let stays = rw c.in-Some-Err.field-0-is at c.in-Some-Err.ensures.stays in
    let next = rw c.in-Some-Err.field-0-is at c.in-Some-Err.ensures.next in
    (progress_with c.loop-turn.kept at, c.loop-turn.invariant.passes, refl, gives_refused (lent_item reader) at (source_of g.R.Read.remaining reader) c.in-Some-Err.error stays next)

pub returns : goal.returns
returns g c =
    let at = source_of g.R.Read.remaining c.loop-turn.reader in
    (progress_with c.loop-turn.kept at, c.loop-turn.invariant.passes, inr (refl, omega (arith, c.loop-turn.invariant.count, c.loop-turn-test.false)))

pub returns-then-pass_one : goal.returns-then-pass_one
returns-then-pass_one g c =
    let at = source_of g.R.Read.remaining c.loop-turn.reader in
    let reader = c.next_header.new.self in
    let header = c.in-Some-Ok.header in
    let item = lent_item reader header in
    let next = rw c.in-Some-Ok.field-0-is at c.in-Some-Ok.ensures.next in
    let many = c.options_of-options.ensures ∙ ap (λ (s : Section). length s.options) c.section.ensures in
    let counts = counted_there _ _ _ item c.loop-turn.kept c.pass_one.new.kept many c.interfaces.ensures c.block-block.ensures.block c.pass_one.ensures.counts in
    let gives = given_there _ _ item true c.interfaces.ensures c.block-block.ensures.block (sym c.pass_one.ensures.gives ∙ c.if-pass_one.true) in
    (progress_with c.loop-turn.kept at, c.loop-turn.invariant.passes, (gives_next (lent_item reader) at (source_of g.R.Read.remaining reader) header refl next, counts), gives)

pub loop-turn-preserved : goal.loop-turn-preserved
loop-turn-preserved g c =
    let at = source_of g.R.Read.remaining c.loop-turn.reader in
    let reader = c.next_header.new.self in
    let header = c.in-Some-Ok.header in
    let item = lent_item reader header in
    let next = rw c.in-Some-Ok.field-0-is at c.in-Some-Ok.ensures.next in
    let old = c.loop-turn.kept in
    let new = c.pass_one.new.kept in
    let many = c.options_of-options.ensures ∙ ap (λ (s : Section). length s.options) c.section.ensures in
    let counts = counted_there _ _ _ item old new many c.interfaces.ensures c.block-block.ensures.block c.pass_one.ensures.counts in
    let may = given_there _ _ item false c.interfaces.ensures c.block-block.ensures.block (sym c.pass_one.ensures.gives ∙ c.if-pass_one.false) in
    passed_more (progress_with c.args.kept.now (source_of g.R.Read.remaining c.args.reader.now)) (progress_with old at) (progress_with new (source_of g.R.Read.remaining reader)) c.loop-turn.turn item c.loop-turn.invariant
    (gives_next (lent_item reader) at (source_of g.R.Read.remaining reader) header refl next, counts) may
