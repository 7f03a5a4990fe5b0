-- Lemmas on interfaces that are written one by one.
use Rattle.std.specs.Prelude.{◌≡◌, ◌+◌, ◌<◌, ◌≤◌, ◌++◌, ◌∷◌, [], ℕ, List, Bool, true, false, length, min, take, zip}
use Rattle.std.specs.Fmt.{WritesInCalls}
use Rattle.std.specs.List.{AllZip}
use Rattle.std.proofs.Common.{◌∙◌, ap, arith, get_or, refl, subst, sym}
use Rattle.std.proofs.lemmas.List.{take_all, take_more}
use Rattle.std.proofs.lemmas.Slice.Zip.{all_zipped_more, get_or-zip, length-zip}
use Rattle.serde_json.specs.Data.{Data}
use Rattle.serde_json.specs.View.{items_of}
use Rattle.serde_json.specs.Written.{comma_if, compact_text, has_float}
use Rattle.pcapfile_info.specs.declared.described.Described.{Described}
use Rattle.pcapfile_info.specs.declared.late.Late.{Late}
use Rattle.pcapfile_shown.specs.Json.{TellsInterface}
use Rattle.pcapfile_shown.specs.Pieces.{items_inside}
use Rattle.pcapfile_shown.proofs.Pieces.{has_some, items_push, wrote_more, wrote_nothing}
use Rattle.pcapfile_shown.proofs.Plain.{interface_plain}

-- These data show the first n interfaces.
abbrev pub AreTold : List Described → List Late → ℕ → List Data → Type 0
AreTold described counts n shown = AllZip TellsInterface (take n (zip described counts)) shown

-- The data show the next interface, too.
told_more : (described : List Described) (counts : List Late) (n : ℕ) (shown : List Data) (data_ : Data) (d : Described) (t : Late)
    → n < length described → n < length counts → d ≡ get_or described n d → t ≡ get_or counts n t
    → AreTold described counts n shown → TellsInterface (d, t) data_ → AreTold described counts (n + 1) (shown ++ data_ ∷ [])
told_more described counts n shown data_ d t first second is_described is_counts before now =
    let pairs : List (Described × Late) = zip described counts in
    let within : n < length pairs = grind (arith, first, second, length-zip described counts) in
    let here : get_or pairs n (d, t) ≡ (d, t) =
    get_or-zip described counts n (d, t) first second ∙ ap (λ x. (x, get_or counts n t)) (sym is_described) ∙ ap (λ y. (d, y)) (sym is_counts) in
    rw (take_more pairs n (d, t) within, here)
    (all_zipped_more TellsInterface (take n pairs) shown (d, t) data_ before now)

-- The data show all interfaces once no other follows.
pub told_all : (described : List Described) (counts : List Late) (n : ℕ) (shown : List Data) → n ≡ min (length described) (length counts)
    → AreTold described counts n shown → AllZip TellsInterface (zip described counts) shown
told_all described counts n shown all told =
    let pairs : List (Described × Late) = zip described counts in
    let enough : length pairs ≤ n = grind (arith, all, length-zip described counts) in
    rw (sym (take_all n pairs enough)) told

some_push : (shown : List Data) (d : Data) → true ≡ has_some (shown ++ d ∷ [])
some_push [] d = refl
some_push (e ∷ shown) d = refl

module _ {W : Type 0} (took : W → List ℕ → W → Type 0) where
  -- The first n interfaces are written, and a comma comes later if there is one.
  pub record Wrote (described : List Described) (counts : List Late) (n : ℕ) (later : Bool) (old new : W) : Type 0 where
    pub shown : List Data
    pub told : AreTold described counts n shown
    pub comma : later ≡ has_some shown
    pub wrote : WritesInCalls took old (items_inside false (items_of shown)) new

  -- No interface is written yet.
  pub none_written : (described : List Described) (counts : List Late) (old : W) → Wrote described counts 0 false old old
  none_written described counts old = record { shown = []; told = tt; comma = refl; wrote = wrote_nothing took old }

  -- The next interface is written.
  pub one_written : (described : List Described) (counts : List Late) (n : ℕ) (later : Bool) (old mid between new : W) (data_ : Data) (d : Described) (t : Late)
      → n < length described → n < length counts → d ≡ get_or described n d → t ≡ get_or counts n t → Wrote described counts n later old mid → TellsInterface (d, t) data_
      → WritesInCalls took mid (comma_if later) between → (has_float data_ ≡ false → WritesInCalls took between (compact_text data_) new) → Wrote described counts (n + 1) true old new
  one_written described counts n later old mid between new data_ d t first second is_described is_counts before now comma value = record {
    shown = before.shown ++ data_ ∷ [];
    told = told_more described counts n before.shown data_ d t first second is_described is_counts before.told now;
    comma = some_push before.shown data_;
    wrote = subst (λ (text : List ℕ). WritesInCalls took old text new) (sym (items_push before.shown data_))
        (wrote_more took old (items_inside false (items_of before.shown)) mid (comma_if (has_some before.shown) ++ compact_text data_) new before.wrote
        (wrote_more took mid (comma_if (has_some before.shown)) between (compact_text data_) new (subst (λ (b : Bool). WritesInCalls took mid (comma_if b) between) before.comma comma) (value (interface_plain (d, t) data_ now))));
  }
