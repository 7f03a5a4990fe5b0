use Rattle.std.proofs.Common.{◌≡◌, [], length, arith, rules, refl, subst, inl, true, None}
use Rattle.std.specs.Io.BufRead.{FillKeeps}
use Rattle.std.proofs.BufReadLemmas.{Consumes_shown}
use Rattle.std.proofs.KnownBytes.{Consumes-nil, Consumes-kept}
use Rattle.pcap_items.specs.Reading.{read_failed}
use Rattle.pcap_items.proofs.Copying.{shows_nothing}
use Rattle.pcapfile_info.proofs.Turns.{ends_here, goes_shown}
use Rattle.pcapfile_info.proofs.shown.pass_shown.Goals as goal

pub returns-in-Err-clause-turn : goal.returns-in-Err-clause-turn
returns-in-Err-clause-turn g c =
    λ q stands. ends_here (g.P.Passes.format c.args.ahead.now) g.P.Passes.is_sight g.P.Passes.first g.P.Passes.kept (λ fault. g.P.Passes.kept) q (g.R.Read.remaining c.args.input.now) _ true 18446744073709551614 c.args.progress.now _ (omega (arith, c.requires.fewer)) (
      c.requires.fewer,
      read_failed tt refl,
      record { taken = []; from_stream = Consumes-kept _ _ _ [] (Consumes-nil _) c.fill_buf.follows.holds-at-none.0; asked = λ n less. absurd (omega (arith, less)) },
    ) (λ first items sights kept. kept)

pub returns-then-is_empty-clause-turn : goal.returns-then-is_empty-clause-turn
returns-then-is_empty-clause-turn g c =
    let empty : length c.in-Ok.shown.now ≡ 0 = search rules in
    λ q stands. ends_here (g.P.Passes.format c.args.ahead.now) g.P.Passes.is_sight g.P.Passes.first g.P.Passes.kept (λ fault. g.P.Passes.kept) q (g.R.Read.remaining c.args.input.now) _ _ 18446744073709551614 c.args.progress.now None (omega (arith, c.requires.fewer))
    (c.requires.unfailed, c.fill_buf.follows.holds-at-none.0, inl (shows_nothing (g.R.Read.remaining c.args.input.now) _ empty c.in-Ok.ensures.end)) (λ first items sights kept. kept)

pub returns-clause-turn : goal.returns-clause-turn
returns-clause-turn g c =
    let shown = c.in-Ok.shown.now in
    let rested = c.fill_buf.follows.lender-at-none in
    let filled = subst (FillKeeps _ (g.R.Read.remaining rested) (g.R.BufRead.consumable_len rested)) c.in-Ok.is c.fill_buf.follows.holds-at-none in
    let moved = Consumes_shown _ _ _ _ shown c.pass-used.result c.pass-used.ensures.within c.in-Ok.ensures.front c.in-Ok.ensures.end filled.0 filled.1 c.consume.ensures.bytes in λ q stands. (
      c.requires.unfailed,
      goes_shown (g.P.Passes.format c.args.ahead.now) g.P.Passes.is_sight g.P.Passes.first g.P.Passes.kept q q (g.R.Read.remaining c.args.input.now) _ c.args.progress.now c.pass-used.new.progress shown c.pass-used.result c.in-Ok.ensures.front (c.pass-used.ensures.walks q stands) moved.0,
    )
