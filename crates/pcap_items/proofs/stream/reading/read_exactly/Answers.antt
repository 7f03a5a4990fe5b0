use Rattle.std.proofs.Common.{◌<◌, ◌-◌, arith}
use Rattle.std.proofs.lemmas.Result.{err_from_is_err_and}
use Rattle.pcap_items.proofs.StreamBytes.{adds_more, adds_kept}
use Rattle.pcap_items.proofs.stream.reading.read_exactly.Goals as goal

pub returns-in_err-taken-clause-part : goal.returns-in_err-taken-clause-part
returns-in_err-taken-clause-part g c =
    let p = err_from_is_err_and c.from_residual.result c.from_residual.ensures.1 in
    let fewer : c.args.n - c.loop-missing.missing < c.args.n = omega (arith, c.loop-missing-test.true, c.loop-missing.invariant.within) in
    rw p.1 (c.args.n - c.loop-missing.missing, fewer, adds_kept _ _ _ _ _ _ _ c.loop-missing.invariant.adds c.in_err-taken.ensures.held c.in_err-taken.ensures.kept)

pub returns-then-taken-eq0-clause-part : goal.returns-then-taken-eq0-clause-part
returns-then-taken-eq0-clause-part g c =
    let had = c.args.n - c.loop-missing.missing in
    let fewer : had < c.args.n = omega (arith, c.loop-missing-test.true, c.loop-missing.invariant.within) in
    (had, fewer, adds_more _ _ _ _ _ _ had c.in_ok-taken.taken had (omega (arith, c.if-taken-eq0.true)) c.loop-missing.invariant.adds c.in_ok-taken.ensures.added)
