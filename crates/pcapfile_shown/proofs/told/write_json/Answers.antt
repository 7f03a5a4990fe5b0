use Rattle.std.proofs.Common.{◌≡◌, ◌++◌, ◌∙◌, List, ℕ, false, refl, sym, subst}
use Rattle.std.specs.Prelude.{codes, option_map}
use Rattle.std.specs.Fmt.{WritesInCalls}
use Rattle.serde_json.specs.Data.{array, object, put}
use Rattle.serde_json.specs.View.{items_of, members_view}
use Rattle.pcapfile_shown.specs.Pieces.{items_inside}
use Rattle.pcapfile_shown.proofs.Pieces.{wrote_more}
use Rattle.pcapfile_shown.proofs.Plain.{whole_plain}
use Rattle.pcapfile_shown.proofs.told.write_json.Goals as goal

pub returns : goal.returns
returns g c =
    let took = g.W.Write.write_str_gives in
    let whole = c.in_ok-told_of.ensures in
    let members = members_view c.in_ok-told_of.field-0.entries in
    let front = c.in_ok-write_before.ensures in
    let interfaces = c.in_ok-write_interfaces.ensures in
    let back = c.in_ok-write_behind.ensures in
    let around = c.in_ok-text.ensures (whole_plain c.args.name.now (option_map (λ text. text.now) c.args.digest) c.args.told.now members whole) front.0 back.0 (sym c.as_str.ensures.value ∙ front.1) (sym c.as_str-2.ensures.value ∙ back.1) (items_of interfaces.0) in (
      object (put (codes "interfaces") (array (items_of interfaces.0)) members),
      (members, interfaces.0, whole, interfaces.1, refl),
      subst (λ (text : List ℕ). WritesInCalls took c.args.output.now text c.write_behind.new.output) (sym around)
          (wrote_more took c.args.output.now front.0 c.write_before.new.output (items_inside false (items_of interfaces.0) ++ back.0) c.write_behind.new.output front.2
          (wrote_more took c.write_before.new.output (items_inside false (items_of interfaces.0)) c.write_interfaces.new.output back.0 c.write_behind.new.output interfaces.2 back.2)),
    )
