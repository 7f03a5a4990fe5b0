use Rattle.std.proofs.Common.{string_bytes}
use Rattle.std.proofs.lemmas.Result.{IfOk-weaker}
use Rattle.pcapfile_lines.proofs.Times.{instant_shows}
use Rattle.pcapfile_lines.proofs.utc.utc_text.Goals as goal

pub returns-in-Some-instant_of : goal.returns-in-Some-instant_of
returns-in-Some-instant_of c =
    let is = rw c.in-Some-instant_of.is at c.instant_of.ensures in
    rw c.in-Some.is (IfOk-weaker c.instant_text.result _ _ (λ text. instant_shows c.args.other.now c.in-Some.time c.in-Some-instant_of.instant.nanosecond (string_bytes text) is) c.instant_text.ensures)
