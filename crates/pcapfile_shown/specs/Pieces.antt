-- The text of JSON in pieces.
use Rattle.std.specs.Prelude.{◌≡◌, ℕ, List, [], ◌++◌, codes, Bool, true, false}
use Rattle.serde_json.specs.Data.{Items, no_items, item, Members, array, object, put}
use Rattle.serde_json.specs.Written.{comma_if, compact_text}

-- The text of the items of an array, without its brackets.
abbrev pub items_inside : Bool → Items → List ℕ
items_inside later no_items = []
items_inside later (item d ds) = comma_if later ++ (compact_text d ++ items_inside true ds)

-- These texts enclose the items of "interfaces": what comes before "]}" in the first, and what follows "{"interfaces":[" in the second.
abbrev pub IsAround : Members → List ℕ → List ℕ → Type 0
IsAround others front back =
    (before after : List ℕ) → front ≡ before ++ codes "]}" → back ≡ codes "{\"interfaces\":[" ++ after
    → (items : Items) → compact_text (object (put (codes "interfaces") (array items) others)) ≡ before ++ (items_inside false items ++ after)
