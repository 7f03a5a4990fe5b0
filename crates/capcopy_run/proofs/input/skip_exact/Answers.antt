use Rattle.std.proofs.Common.{arith}
use Rattle.std.proofs.BufReadLemmas.{Consumes_shown}
use Rattle.capcopy_run.proofs.Skipping.{skipped_more}
use Rattle.capcopy_run.proofs.input.skip_exact.Goals as goal

pub loop-missing-preserved : goal.loop-missing-preserved
loop-missing-preserved g c =
    let shown = c.in_ok-shown.shown.now in
    let used = c.min-used.result in
    let filled = rw c.in_ok-shown.was at c.fill_buf.follows.holds-at-none in
    let came = Consumes_shown _ _ _ _ shown used (omega (arith, c.min-used.ensures)) c.in_ok-shown.ensures.front c.in_ok-shown.ensures.end filled.0 filled.1 c.consume.ensures.bytes in
    record {
      within = omega (arith, c.loop-missing.invariant.within);
      skipped = skipped_more _ used _ _ _ _ shown c.loop-missing.invariant.skipped (omega (arith, c.min-used.ensures)) (omega (arith, c.min-used.ensures, c.loop-missing.invariant.within)) came.0;
    }
