use Rattle.std.proofs.Common.{◌≡◌, [], length, take, refl, subst, arith, rules, inr}
use Rattle.std.specs.Io.BufRead.{FillKeeps}
use Rattle.std.proofs.BufReadLemmas.{Consumes_shown}
use Rattle.std.proofs.KnownBytes.{Consumes-nil, Consumes-kept, Keeps-refl}
use Rattle.pcap_core.specs.declared.errors.PcapError.TheVariants.{IoError}
use Rattle.pcap_items.specs.Reading.{read_failed}
use Rattle.pcap_items.proofs.Copying.{shows_nothing}
use Rattle.pcap_walk.specs.declared.walking.Ended.TheVariants.{AtEnd, Refused, Stopped}
use Rattle.pcap_walk.specs.Walks.{does_of}
use Rattle.pcap_walk.proofs.Walks.{walks_met, walks_ready, ends_here, ends_ready, stops_met, turn_behind}
use Rattle.pcap_walk.proofs.walking.walk_turn.Goals as goal

pub returns-in-Err-clause-turn : goal.returns-in-Err-clause-turn
returns-in-Err-clause-turn g c =
    ends_here (g.F.Walker.format (g.F.Walker.setting c.args.walker.now)) (does_of g.F.Walker.value g.S.Sink.wants g.S.Sink.gives) g.S.Sink.is_unready g.S.Sink.wants (g.F.Walker.state c.args.walker.now) _ _ _ c.args.most c.args.walked.now.items _ _ _ _ _ (Stopped c.in-Err.stop)
    c.in-Err.ensures.kept (c.requires.fewer, c.requires.unfailed, inr (c.in-Err.ensures.stops, Keeps-refl _, refl, Keeps-refl _))

pub returns-in-Err-fill_buf-clause-turn : goal.returns-in-Err-fill_buf-clause-turn
returns-in-Err-fill_buf-clause-turn g c =
    ends_here (g.F.Walker.format (g.F.Walker.setting c.args.walker.now)) (does_of g.F.Walker.value g.S.Sink.wants g.S.Sink.gives) g.S.Sink.is_unready g.S.Sink.wants (g.F.Walker.state c.args.walker.now) _ _ _ c.args.most c.args.walked.now.items _ _ _ _ _ (Refused (IoError c.in-Err-fill_buf.error))
    c.wait.ensures.kept (
      c.requires.fewer,
      read_failed tt refl,
      record { taken = []; from_stream = Consumes-kept _ _ _ [] (Consumes-nil _) c.fill_buf.follows.holds-at-none.0; asked = λ n less. absurd (omega (arith, less)) },
      refl,
      Keeps-refl _,
    )

pub returns-then-is_empty-clause-turn : goal.returns-then-is_empty-clause-turn
returns-then-is_empty-clause-turn g c =
    let empty : length c.in-Ok.shown.now ≡ 0 = search rules in
    ends_here (g.F.Walker.format (g.F.Walker.setting c.args.walker.now)) (does_of g.F.Walker.value g.S.Sink.wants g.S.Sink.gives) g.S.Sink.is_unready g.S.Sink.wants (g.F.Walker.state c.args.walker.now) _ _ _ c.args.most c.args.walked.now.items _ _ _ _ _ AtEnd
    c.wait.ensures.kept (c.requires.fewer, c.requires.unfailed, shows_nothing (g.R.Read.remaining c.args.input.now) _ empty c.in-Ok.ensures.end, c.fill_buf.follows.holds-at-none.0, refl, Keeps-refl _)

pub returns-in-Some-clause-turn : goal.returns-in-Some-clause-turn
returns-in-Some-clause-turn g c =
    let shown = c.in-Ok.shown.now in
    let used = c.walk_shown-used.result.used in
    let met = rw c.in-Some.is at c.walk_shown-used.ensures.meets in
    let rested = c.fill_buf.follows.lender-at-none in
    let filled = subst (FillKeeps _ (g.R.Read.remaining rested) (g.R.BufRead.consumable_len rested)) c.in-Ok.is c.fill_buf.follows.holds-at-none in
    let moved = Consumes_shown _ _ _ _ shown used c.walk_shown-used.ensures.within c.in-Ok.ensures.front c.in-Ok.ensures.end filled.0 filled.1 c.consume.ensures.bytes in
    let f = g.F.Walker.format (g.F.Walker.setting c.args.walker.now) in
    let does = does_of g.F.Walker.value g.S.Sink.wants g.S.Sink.gives in
    ends_ready f does g.S.Sink.is_unready g.S.Sink.wants (g.F.Walker.state c.args.walker.now) _ _ _ c.args.most c.args.walked.now.items c.walk_shown-used.new.items _ _ _ _ _ (Stopped c.in-Some.stop) c.wait.ensures.kept
    (stops_met f does g.S.Sink.is_unready g.S.Sink.wants (g.F.Walker.state c.args.walker.now) (take used shown) _ _ _ c.args.most c.args.walked.now.items c.walk_shown-used.new.items _ _ _ _ c.in-Some.stop c.requires.unfailed moved.0 met)

pub returns-then-walked-before-clause-turn : goal.returns-then-walked-before-clause-turn
returns-then-walked-before-clause-turn g c =
    let shown = c.in-Ok.shown.now in
    let used = c.walk_shown-used.result.used in
    let met = rw c.in_default-stop.is at c.walk_shown-used.ensures.meets in
    let rested = c.fill_buf.follows.lender-at-none in
    let filled = subst (FillKeeps _ (g.R.Read.remaining rested) (g.R.BufRead.consumable_len rested)) c.in-Ok.is c.fill_buf.follows.holds-at-none in
    let moved = Consumes_shown _ _ _ _ shown used c.walk_shown-used.ensures.within c.in-Ok.ensures.front c.in-Ok.ensures.end filled.0 filled.1 c.consume.ensures.bytes in
    let f = g.F.Walker.format (g.F.Walker.setting c.args.walker.now) in
    let does = does_of g.F.Walker.value g.S.Sink.wants g.S.Sink.gives in (
      walks_ready f does (g.F.Walker.state c.args.walker.now) _ _ _ c.args.walked.now.items c.walk_shown-used.new.items _ _ _ _ _ c.wait.ensures.kept
          (walks_met f does (g.F.Walker.state c.args.walker.now) (take used shown) _ _ c.args.walked.now.items c.walk_shown-used.new.items _ _ _ _ moved.0 met.0),
      c.requires.unfailed,
      c.if-walked-before.true,
      met.2,
    )

pub returns-clause-turn : goal.returns-clause-turn
returns-clause-turn g c =
    let shown = c.in-Ok.shown.now in
    let used = c.walk_shown-used.result.used in
    let met = rw c.in_default-stop.is at c.walk_shown-used.ensures.meets in
    let rested = c.fill_buf.follows.lender-at-none in
    let filled = subst (FillKeeps _ (g.R.Read.remaining rested) (g.R.BufRead.consumable_len rested)) c.in-Ok.is c.fill_buf.follows.holds-at-none in
    let moved = Consumes_shown _ _ _ _ shown used c.walk_shown-used.ensures.within c.in-Ok.ensures.front c.in-Ok.ensures.end filled.0 filled.1 c.consume.ensures.bytes in
    let f = g.F.Walker.format (g.F.Walker.setting c.args.walker.now) in
    let does = does_of g.F.Walker.value g.S.Sink.wants g.S.Sink.gives in
    let here = g.F.Walker.state c.args.walker.now in
    turn_behind f does c.requires.lawful g.S.Sink.is_unready g.S.Sink.wants here here _ _ _ _ _ c.args.most c.args.walked.now.items c.walk_shown-used.new.items _ _ _ _ _ _ _ _ met.1
    (walks_ready f does here _ _ _ c.args.walked.now.items c.walk_shown-used.new.items _ _ _ _ _ c.wait.ensures.kept (walks_met f does here (take used shown) _ _ c.args.walked.now.items c.walk_shown-used.new.items _ _ _ _ moved.0 met.0))
    c.walk_torn.ensures.turn
