use Rattle.std.proofs.Common.{◌∙◌, ap, Option, Some}
use Rattle.std.specs.Prelude.{Bool, ℕ}
use Rattle.pcapfile_lines.proofs.Times.{printer_shows}
use Rattle.pcapfile_shown.proofs.time.instant_text.Goals as goal

pub returns : goal.returns
returns c =
    let are = c.precision.ensures ∙ ap (λ (o : Bool × ℕ × Option ℕ). (o.0, o.1, Some 9)) c.new.ensures in
    printer_shows c.precision.result c.args.instant _ are c.timestamp_text.ensures
