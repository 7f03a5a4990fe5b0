use Rattle.std.proofs.Common.{◌∙◌, [], ℕ, length, refl, subst, arith, inl, None, Some}
use Rattle.std.proofs.lemmas.Result.{err_from_is_err_and}
use Rattle.pcap_ng.specs.Blocks.{block_format}
use Rattle.pcap_ng.specs.Lent.{framed_around}
use Rattle.pcap_ng.specs.Reader.{body_of, state_of, stream_of, text_of, lent_item, section_in_force, interfaces_in_force}
use Rattle.pcap_ng.proofs.BlockFormat.{blocks_lawful, goes_after}
use Rattle.pcapfile_info.specs.KeptBlocks.{EndsBlocks, KeepsBlocks}
use Rattle.pcapfile_info.specs.Sights.{IsBlockSight}
use Rattle.pcapfile_info.proofs.Describing.{same_loses}
use Rattle.pcapfile_info.proofs.InForce.{taken_leads}
use Rattle.pcapfile_info.proofs.KeptBlocks.{counted_ends, kept_ends, kept_more}
use Rattle.pcapfile_info.proofs.Telling.{nothing_same, telling_lacks}
use Rattle.pcapfile_info.proofs.Turns.{ends_here, goes_more}
use Rattle.pcapfile_info.proofs.progress.pass_next.Goals as goal

pub returns-in_err-follow-in-Some-Ok-clause-turn : goal.returns-in_err-follow-in-Some-Ok-clause-turn
returns-in_err-follow-in-Some-Ok-clause-turn g c =
    let p = err_from_is_err_and c.from_residual.result c.from_residual.ensures.1 in
    let here = state_of c.args.reader.now in
    let reader = c.next_header-next.new.self in
    let mid = c.args.progress.now in
    let next = rw (c.requires.ready, c.in-Some-Ok.field-0-is) at c.in-Some-Ok.ensures.next in
    let nothing = nothing_same mid mid (refl, refl, refl) in
    rw (p.1, p.2, c.failed.ensures) (λ first before old so_far.
    telling_lacks block_format first IsBlockSight 0 KeepsBlocks blocks_lawful (EndsBlocks _) here before (g.T.Read.remaining (stream_of c.args.reader.now)) (g.T.Read.remaining (stream_of reader)) _ 18446744073709551614 old mid mid mid.items (lent_item reader c.in-Some-Ok.header) _
    so_far c.requires.fewer next.2 next.1 tt nothing (λ items sights kept. counted_ends _ tt mid mid nothing (same_loses mid mid refl refl) first items sights kept))

pub returns-in_err-tell_block-in-Some-Ok-clause-turn : goal.returns-in_err-tell_block-in-Some-Ok-clause-turn
returns-in_err-tell_block-in-Some-Ok-clause-turn g c =
    let told = c.in_err-tell_block-in-Some-Ok in
    let p = err_from_is_err_and c.from_residual-in_err-tell_block-in-Some-Ok.result c.from_residual-in_err-tell_block-in-Some-Ok.ensures.1 in
    let here = state_of c.args.reader.now in
    let reader = c.next_header-next.new.self in
    let mid = c.args.progress.now in
    let new = c.tell_block.new.progress in
    let next = rw (c.requires.ready, c.in-Some-Ok.field-0-is) at c.in-Some-Ok.ensures.next in
    let e = told.field-0.0 in
    rw (p.1, p.2, c.failed.ensures) (λ first before old so_far.
    telling_lacks block_format first IsBlockSight 0 KeepsBlocks blocks_lawful (EndsBlocks (Some e)) here before (g.T.Read.remaining (stream_of c.args.reader.now)) (g.T.Read.remaining (stream_of reader)) _ 18446744073709551614 old mid new mid.items (lent_item reader c.in-Some-Ok.header) e
    so_far c.requires.fewer next.2 next.1 told.ensures.counts.0 told.ensures.counts.1 (λ items sights kept. counted_ends e told.ensures.counts.0 mid new told.ensures.counts.1 told.ensures.counts.2 first items sights kept))

pub returns-in-None-clause-turn : goal.returns-in-None-clause-turn
returns-in-None-clause-turn g c =
    let mid = c.args.progress.now in
    let next = rw c.requires.ready at c.in-None.ensures.next in
    rw c.failed.ensures (ends_here block_format IsBlockSight 0 KeepsBlocks EndsBlocks (state_of c.args.reader.now) (g.T.Read.remaining (stream_of c.args.reader.now)) (g.T.Read.remaining (stream_of c.next_header-next.new.self)) _ 18446744073709551614 mid None
    (omega (arith, c.requires.fewer)) (next.1, next.3, inl next.2) (λ first items sights kept. kept_ends None first items sights mid kept))

pub returns-in-Some-Err-clause-turn : goal.returns-in-Some-Err-clause-turn
returns-in-Some-Err-clause-turn g c =
    let mid = c.args.progress.now in
    let e = c.in-Some-Err.error in
    let next = rw (c.requires.ready, c.in-Some-Err.field-0-is) at c.in-Some-Err.ensures.next in
    rw c.failed.ensures (ends_here block_format IsBlockSight 0 KeepsBlocks EndsBlocks (state_of c.args.reader.now) (g.T.Read.remaining (stream_of c.args.reader.now)) (g.T.Read.remaining (stream_of c.next_header-next.new.self)) _ 18446744073709551614 mid (Some e)
    (omega (arith, c.requires.fewer)) (c.requires.fewer, next.1, next.2) (λ first items sights kept. kept_ends (Some e) first items sights mid kept))

pub returns-in_ok-tell_block-in-Some-Ok-clause-clocks : goal.returns-in_ok-tell_block-in-Some-Ok-clause-clocks
returns-in_ok-tell_block-in-Some-Ok-clause-clocks g c =
    let before = c.args.reader.now in
    let reader = c.next_header-next.new.self in
    let text = rw c.in-Some-Ok.field-0-is at c.in-Some-Ok.ensures.text in
    let follows = rw (c.section.ensures, c.interfaces.ensures) at c.in_ok-follow-in-Some-Ok.ensures in
    follows (state_of before) c.requires.clocks (taken_leads (section_in_force before) (interfaces_in_force before) (lent_item reader c.in-Some-Ok.header) (text_of reader) [] text.0)

pub returns-in_ok-tell_block-in-Some-Ok-clause-turn : goal.returns-in_ok-tell_block-in-Some-Ok-clause-turn
returns-in_ok-tell_block-in-Some-Ok-clause-turn g c =
    let told = c.in_ok-tell_block-in-Some-Ok.ensures in
    let here = state_of c.args.reader.now in
    let reader = c.next_header-next.new.self in
    let mid = c.args.progress.now in
    let new = c.tell_block.new.progress in
    let item = lent_item reader c.in-Some-Ok.header in
    let next = rw (c.requires.ready, c.in-Some-Ok.field-0-is) at c.in-Some-Ok.ensures.next in
    let text = rw c.in-Some-Ok.field-0-is at c.in-Some-Ok.ensures.text in
    let sight = told.counts.0 in (
      c.failed.ensures ∙ next.1,
      goes_more block_format IsBlockSight 0 KeepsBlocks blocks_lawful here (state_of reader) (g.T.Read.remaining (stream_of c.args.reader.now)) (g.T.Read.remaining (stream_of reader)) mid new (length (text_of reader)) item sight
          (text_of reader, text.0, text.1) (goes_after here item) refl
          (λ first items sights kept. (
            subst (λ (n : ℕ). IsBlockSight n item sight) kept.totals.described told.counts.1,
            kept_more (framed_around c.in-Some-Ok.header (body_of reader)) (section_in_force reader) (interfaces_in_force reader) sight mid new told.counts.2.2 told.describes first items sights kept,
          )) told.counts.2.0 told.counts.2.1,
    )
