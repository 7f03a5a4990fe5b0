use Rattle.std.proofs.Common.{◌≡◌, ◌++◌, ◌∙◌, List, false, refl, sym, ap, subst}
use Rattle.std.specs.Prelude.{codes, string_bytes}
use Rattle.serde_json.proofs.Views.{Entry, view-Array, view-Object}
use Rattle.serde_json.specs.Data.{Data, Members, no_items, array, object, put}
use Rattle.serde_json.specs.View.{items_view, members_view, view}
use Rattle.serde_json.specs.Written.{compact_text, has_float, members_have_float}
use Rattle.serde_json.specs.declared.value.Value.{Value, Array, Object}
use Rattle.pcapfile_shown.specs.Pieces.{IsAround}
use Rattle.pcapfile_shown.proofs.Pieces.{around_text, back_plain, front_plain, put_plain}
use Rattle.pcapfile_shown.proofs.piecewise.text_around.Goals as goal

pub returns : goal.returns
returns c = λ plain.
    let es : List Entry = c.split_off.new.self.entries in
    let fs : List Entry = c.in_ok-back.back.entries in
    let both : members_have_float (members_view (es ++ fs)) ≡ false = ap (λ (l : List Entry). members_have_float (members_view l)) (sym c.in_ok-back.ensures.parts) ∙ plain in
    let none : view (Array c.new.result) ≡ array no_items = view-Array c.new.result ∙ ap (λ (l : List Value). array (items_view l)) c.new.ensures.items in
    let none_too : view (Array c.new-2.result) ≡ array no_items = view-Array c.new-2.result ∙ ap (λ (l : List Value). array (items_view l)) c.new-2.ensures.items in
    let first : view (Object c.put.new.map) ≡ object (put (codes "interfaces") (array no_items) (members_view es)) =
    view-Object c.put.new.map ∙ ap object (c.in_ok-put.ensures.ok ∙ ap (λ (d : Data). put (codes "interfaces") d (members_view es)) none) in
    let second : view (Object c.put-2.new.map) ≡ object (put (codes "interfaces") (array no_items) (members_view fs)) =
    view-Object c.put-2.new.map ∙ ap object (c.in_ok-put-2.ensures.ok ∙ ap (λ (d : Data). put (codes "interfaces") d (members_view fs)) none_too) in
    let front = c.in_ok-to_string.ensures.text (ap has_float first ∙ put_plain (codes "interfaces") (array no_items) (members_view es) refl (front_plain es fs both)) ∙ ap compact_text first in
    let back = c.in_ok-to_string-2.ensures.text (ap has_float second ∙ put_plain (codes "interfaces") (array no_items) (members_view fs) refl (back_plain es fs both)) ∙ ap compact_text second in
    subst (λ (l : List Entry). IsAround (members_view l) (string_bytes c.in_ok-to_string.field-0) (string_bytes c.in_ok-to_string-2.field-0)) (sym c.in_ok-back.ensures.parts)
    (around_text es fs c.in_ok-back.ensures.all_below c.in_ok-back.ensures.all_from _ _ front back)
