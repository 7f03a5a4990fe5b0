use Rattle.std.proofs.Common.{◌≡◌, ◌∙◌, ap, refl}
use Rattle.serde_json.proofs.Views.{view-Object}
use Rattle.serde_json.specs.Data.{object}
use Rattle.serde_json.specs.View.{view}
use Rattle.serde_json.specs.Written.{compact_text, has_float}
use Rattle.serde_json.specs.declared.value.Value.{Object}
use Rattle.pcapfile_shown.specs.Sums.{total_members}
use Rattle.pcapfile_shown.proofs.Plain.{total_plain}
use Rattle.pcapfile_shown.proofs.total.Total.json.Goals as goal

pub returns : goal.returns
returns c =
    let shown : view (Object c.in_ok-members.members) ≡ object (total_members c.args.self.now c.args.status) =
    view-Object c.in_ok-members.members ∙ ap object c.in_ok-members.ensures in
    c.in_ok-to_string.ensures.text (ap has_float shown ∙ total_plain c.args.self.now c.args.status _ refl) ∙ ap compact_text shown
