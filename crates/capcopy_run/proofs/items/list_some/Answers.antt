use Rattle.std.proofs.Common.{take}
use Rattle.std.specs.Io.KnownBytes.{Consumes}
use Rattle.std.proofs.BufReadLemmas.{Consumes_shown}
use Rattle.std.proofs.lemmas.Result.{err_from_is_err_and}
use Rattle.capcopy_run.proofs.Turns.{ends_shown, goes_shown, turn_behind}
use Rattle.capcopy_run.proofs.items.list_some.Goals as goal

pub returns-in_err-used-clause-turn : goal.returns-in_err-used-clause-turn
returns-in_err-used-clause-turn g c =
    let p = err_from_is_err_and c.from_residual-in_err-used.result c.from_residual-in_err-used.ensures.1 in
    rw (p.1, p.2) (ends_shown (g.L.Lister.is_line (g.L.Lister.setting c.args.lister.now)) (g.L.Lister.format (g.L.Lister.setting c.args.lister.now)) (g.L.Lister.state c.args.lister.now) (g.R.Read.remaining c.args.input.now) _ _ c.flush.ensures.bytes c.in_ok-shown.shown.now c.in_ok-shown.ensures.front c.args.listed.now _ _ c.args.most _ (λ behind. c.in_err-used.ensures.walks behind _))

pub returns-then-listed-before-clause-turn : goal.returns-then-listed-before-clause-turn
returns-then-listed-before-clause-turn g c =
    let left = g.R.Read.remaining c.args.input.now in
    let now = g.R.Read.remaining c.consume.new.self in
    let shown = c.in_ok-shown.shown.now in
    let filled = rw c.in_ok-shown.was at c.fill_buf.follows.holds-at-none in
    let came : Consumes left now (take c.in_ok-used.used shown) = (Consumes_shown left _ now _ shown c.in_ok-used.used c.in_ok-used.ensures.within c.in_ok-shown.ensures.front c.in_ok-shown.ensures.end filled.0 filled.1 c.consume.ensures.bytes).0 in
    goes_shown (g.L.Lister.is_line (g.L.Lister.setting c.args.lister.now)) (g.L.Lister.format (g.L.Lister.setting c.args.lister.now)) (g.L.Lister.state c.args.lister.now) left _ _ c.flush.ensures.bytes shown c.in_ok-shown.ensures.front c.args.listed.now (g.L.Lister.state c.list_shown.new.self) now _ c.in_ok-used.used c.list_shown.new.listed c.in_ok-used.ensures.walks came

pub returns-clause-turn : goal.returns-clause-turn
returns-clause-turn g c =
    let f = g.L.Lister.format (g.L.Lister.setting c.args.lister.now) in
    let here = g.L.Lister.state c.args.lister.now in
    let to = g.L.Lister.state c.list_shown.new.self in
    let there = g.L.Lister.state c.list_torn.new.self in
    let left = g.R.Read.remaining c.args.input.now in
    let now = g.R.Read.remaining c.consume.new.self in
    let shown = c.in_ok-shown.shown.now in
    let filled = rw c.in_ok-shown.was at c.fill_buf.follows.holds-at-none in
    let came : Consumes left now (take c.in_ok-used.used shown) = (Consumes_shown left _ now _ shown c.in_ok-used.used c.in_ok-used.ensures.within c.in_ok-shown.ensures.front c.in_ok-shown.ensures.end filled.0 filled.1 c.consume.ensures.bytes).0 in
    let turn = rw c.in_ok-used.ensures.same at c.list_torn.ensures.turn in
    turn_behind (g.L.Lister.is_line (g.L.Lister.setting c.args.lister.now)) f here to there left now _ _ _ _ c.args.listed.now c.list_shown.new.listed c.list_torn.new.listed c.args.most c.list_torn.result
    (goes_shown (g.L.Lister.is_line (g.L.Lister.setting c.args.lister.now)) f here left _ _ c.flush.ensures.bytes shown c.in_ok-shown.ensures.front c.args.listed.now to now _ c.in_ok-used.used c.list_shown.new.listed c.in_ok-used.ensures.walks came)
    turn
