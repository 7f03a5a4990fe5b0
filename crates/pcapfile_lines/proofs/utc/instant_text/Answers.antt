use Rattle.std.proofs.Common.{sym, subst, ◌∙◌, ap, Option, Some}
use Rattle.std.specs.Prelude.{Bool, ℕ}
use Rattle.std.proofs.lemmas.Result.{IfOk-weaker}
use Rattle.pcapfile_lines.specs.Lines.{ShowsInstant}
use Rattle.pcapfile_lines.proofs.Times.{printer_shows}
use Rattle.pcapfile_lines.proofs.utc.instant_text.Goals as goal

pub returns : goal.returns
returns c =
    let are = c.precision.ensures ∙ ap (λ (o : Bool × ℕ × Option ℕ). (o.0, o.1, Some 9)) c.new.ensures in
    let shows = printer_shows c.precision.result c.args.instant _ are c.timestamp_text-text.ensures in
    IfOk-weaker c.from_str.result _ _ (λ text is. subst (λ bytes. ShowsInstant c.args.instant.nanosecond bytes) (sym (is ∙ c.as_str.ensures.value)) shows) c.from_str.ensures.ok
