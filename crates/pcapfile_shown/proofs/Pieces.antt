-- Lemmas on the text of JSON in pieces.
use Rattle.std.specs.Prelude.{◌≡◌, ◌++◌, ◌∷◌, ◌||◌, [], ℕ, List, Bool, true, false, String, codes, string_bytes, All}
use Rattle.std.specs.Global.{Global}
use Rattle.std.specs.Ordering.{nat_cmp, match_ordering, is_gt}
use Rattle.std.specs.Cmp.Lexicographic.{slice_cmp}
use Rattle.std.specs.Map.{keys_of}
use Rattle.std.proofs.Common.{◌∙◌, ap, refl, sym, subst, append_assoc, append-nil, cond, Ordering, Less, Equal, Greater, is_eq, true≢false}
use Rattle.std.proofs.lemmas.List.{append_cancel_left, append_cancel_right}
use Rattle.std.specs.Fmt.{WritesInCalls}
use Rattle.std.specs.List.{FoldsTo, concat}
use Rattle.std.proofs.lemmas.List.Elements.{All-head, All-nil, All-tail}
use Rattle.std.proofs.lemmas.Map.Text.{is_eq-slice_cmp}
use Rattle.std.proofs.lemmas.Slice.Eq.{bytes_eq-Decides}
use Rattle.serde_json.specs.Data.{Data, Items, no_items, item, Members, no_members, member, array, object, put}
use Rattle.serde_json.specs.View.{items_of, members_view, view}
use Rattle.serde_json.specs.declared.value.Value.{Value}
use Rattle.serde_json.specs.Written.{comma_if, compact_text, has_float, items_text, members_have_float, members_text}
use Rattle.json.specs.Print.{escape_byte, quoted}
use Rattle.pcapfile_shown.specs.Pieces.{items_inside, IsAround}

-- The members of two objects, one after another.
abbrev pub joined : Members → Members → Members
joined no_members after = after
joined (member k d ms) after = member k d (joined ms after)

-- The members behind a key's place, where none comes before it.
abbrev pub behind : List ℕ → Members → Members
behind k no_members = no_members
behind k (member l e ms) = match_ordering (slice_cmp nat_cmp k l) (member l e ms) ms (member l e ms)

-- The text of an array's items and its end.
pub items_closed : (later : Bool) (ds : Items) → items_text later ds ≡ items_inside later ds ++ 93 ∷ []
items_closed later no_items = refl
items_closed later (item d ds) =
    ap (λ (t : List ℕ). comma_if later ++ (compact_text d ++ t)) (items_closed true ds) ∙ ap (λ (t : List ℕ). comma_if later ++ t) (sym (append_assoc (compact_text d) (items_inside true ds) (93 ∷ [])))
    ∙ sym (append_assoc (comma_if later) (compact_text d ++ items_inside true ds) (93 ∷ []))

-- A list has an element.
abbrev pub has_some : List Data → Bool
has_some [] = false
has_some (d ∷ ds) = true

-- One more item.
items_later : (ds : List Data) (d : Data) → items_inside true (items_of (ds ++ d ∷ [])) ≡ items_inside true (items_of ds) ++ (44 ∷ compact_text d)
items_later [] d = ap (λ (t : List ℕ). 44 ∷ t) (append-nil (compact_text d))
items_later (e ∷ ds) d =
    ap (λ (t : List ℕ). 44 ∷ (compact_text e ++ t)) (items_later ds d) ∙ ap (λ (t : List ℕ). 44 ∷ t) (sym (append_assoc (compact_text e) (items_inside true (items_of ds)) (44 ∷ compact_text d)))

pub items_push : (ds : List Data) (d : Data) → items_inside false (items_of (ds ++ d ∷ [])) ≡ items_inside false (items_of ds) ++ (comma_if (has_some ds) ++ compact_text d)
items_push [] d = append-nil (compact_text d)
items_push (e ∷ ds) d =
    ap (λ (t : List ℕ). compact_text e ++ t) (items_later ds d) ∙ sym (append_assoc (compact_text e) (items_inside true (items_of ds)) (44 ∷ compact_text d))

is_greater : (o : Ordering) → is_gt o ≡ true → o ≡ Greater
is_greater Less is = absurd (true≢false (sym is))
is_greater Equal is = absurd (true≢false (sym is))
is_greater Greater is = refl

-- A member is put before one whose key isn't less, or replaces it.
put_at : (o : Ordering) (k l : List ℕ) (d e : Data) (ms : Members) → slice_cmp nat_cmp k l ≡ o → is_gt o ≡ false
    → match_ordering o (member k d (member l e ms)) (member l d ms) (member l e (put k d ms)) ≡ member k d (match_ordering o (member l e ms) ms (member l e ms))
put_at Less k l d e ms is not_greater = refl
put_at Equal k l d e ms is not_greater =
    let same : k ≡ l = (bytes_eq-Decides k l).0 (sym (is_eq-slice_cmp k l) ∙ ap is_eq is) in
    ap (λ (t : List ℕ). member t d ms) (sym same)
put_at Greater k l d e ms is not_greater = absurd (true≢false not_greater)

-- The key of an entry is less than this one, or it isn't.
abbrev pub is_less : List ℕ → String Global → Bool
is_less k l = is_gt (slice_cmp nat_cmp k (string_bytes l))

-- A member is put between those with lesser keys and the others.
pub put_front : (k : List ℕ) (d : Data) (es fs : List (String Global × Value)) → All (λ l. is_less k l ≡ true) (keys_of es) → All (λ l. is_less k l ≡ false) (keys_of fs)
    → put k d (members_view (es ++ fs)) ≡ joined (members_view es) (member k d (behind k (members_view fs)))
put_front k d [] [] before after = refl
put_front k d [] (f ∷ fs) before after = put_at _ k (string_bytes f.0) d (view f.1) (members_view fs) refl (All-head (λ l. is_less k l ≡ false) f.0 (keys_of fs) after)
put_front k d (e ∷ es) fs before after =
    let l : List ℕ = string_bytes e.0 in
    let rest : Members = members_view (es ++ fs) in
    let greater : slice_cmp nat_cmp k l ≡ Greater = is_greater _ (All-head (λ l. is_less k l ≡ true) e.0 (keys_of es) before) in
    ap (λ (o : Ordering). match_ordering o (member k d (member l (view e.1) rest)) (member l d rest) (member l (view e.1) (put k d rest))) greater
    ∙ ap (λ (ms : Members). member l (view e.1) ms) (put_front k d es fs (All-tail (λ l. is_less k l ≡ true) e.0 (keys_of es) before) after)

-- The text of an object up to the array at a key, which comes after these members.
abbrev pub opened : List ℕ → Bool → Members → List ℕ
opened k later no_members = comma_if later ++ (quoted k ++ 58 ∷ 91 ∷ [])
opened k later (member l d ms) = comma_if later ++ (quoted l ++ 58 ∷ (compact_text d ++ opened k true ms))

pub text_parts : (k : List ℕ) (later : Bool) (front after : Members) (ds : Items) → members_text later (joined front (member k (array ds) after)) ≡ opened k later front ++ (items_text false ds ++ members_text true after)
text_parts k later no_members after ds =
    ap (λ (t : List ℕ). comma_if later ++ t) (sym (append_assoc (quoted k) (58 ∷ 91 ∷ []) (items_text false ds ++ members_text true after)))
    ∙ sym (append_assoc (comma_if later) (quoted k ++ 58 ∷ 91 ∷ []) (items_text false ds ++ members_text true after))
text_parts k later (member l d ms) after ds =
    let rest : List ℕ = items_text false ds ++ members_text true after in
    ap (λ (t : List ℕ). comma_if later ++ (quoted l ++ 58 ∷ (compact_text d ++ t))) (text_parts k true ms after ds)
    ∙ ap (λ (t : List ℕ). comma_if later ++ (quoted l ++ 58 ∷ t)) (sym (append_assoc (compact_text d) (opened k true ms) rest))
    ∙ ap (λ (t : List ℕ). comma_if later ++ t) (sym (append_assoc (quoted l) (58 ∷ (compact_text d ++ opened k true ms)) rest))
    ∙ sym (append_assoc (comma_if later) (quoted l ++ 58 ∷ (compact_text d ++ opened k true ms)) rest)

-- Calls of a writer, one after another.
module _ {W : Type 0} (took : W → List ℕ → W → Type 0) where
  pub wrote_nothing : (w : W) → WritesInCalls took w [] w
  wrote_nothing w = record { parts = []; calls = refl; whole = refl }

  pub wrote_once : (w : W) (text : List ℕ) (v : W) → took w text v → WritesInCalls took w text v
  wrote_once w text v call = record { parts = text ∷ []; calls = (v, call, refl); whole = append-nil text }

  calls_more : (w : W) (xs : List (List ℕ)) (v : W) (ys : List (List ℕ)) (u : W) → FoldsTo took w xs v → FoldsTo took v ys u → FoldsTo took w (xs ++ ys) u
  calls_more w [] v ys u before now = subst (λ (x : W). FoldsTo took x ys u) (sym before) now
  calls_more w (x ∷ xs) v ys u before now = (before.0, before.1, calls_more before.0 xs v ys u before.2 now)

  concat_both : (xs ys : List (List ℕ)) → concat (xs ++ ys) ≡ concat xs ++ concat ys
  concat_both [] ys = refl
  concat_both (x ∷ xs) ys = ap (λ (l : List ℕ). x ++ l) (concat_both xs ys) ∙ sym (append_assoc x (concat xs) (concat ys))

  pub wrote_more : (w : W) (a : List ℕ) (v : W) (b : List ℕ) (u : W) → WritesInCalls took w a v → WritesInCalls took v b u → WritesInCalls took w (a ++ b) u
  wrote_more w a v b u before now = record {
    parts = before.parts ++ now.parts;
    calls = calls_more w before.parts v now.parts u before.calls now.calls;
    whole = concat_both before.parts now.parts ∙ ap (λ (l : List ℕ). l ++ concat now.parts) before.whole ∙ ap (λ (l : List ℕ). a ++ l) now.whole;
  }

neither : (a b : Bool) → a ≡ false → b ≡ false → (a || b) ≡ false
neither a b one other = rw (one, other) refl

first_false : (a b : Bool) → (a || b) ≡ false → a ≡ false
first_false true b is = absurd (true≢false is)
first_false false b is = refl

second_false : (a b : Bool) → (a || b) ≡ false → b ≡ false
second_false true b is = absurd (true≢false is)
second_false false b is = is

put_plain_at : (o : Ordering) (k l : List ℕ) (d e : Data) (ms : Members) → has_float d ≡ false → has_float e ≡ false → members_have_float ms ≡ false → members_have_float (put k d ms) ≡ false
    → members_have_float (match_ordering o (member k d (member l e ms)) (member l d ms) (member l e (put k d ms))) ≡ false
put_plain_at Less k l d e ms now here others later = neither _ _ now (neither _ _ here others)
put_plain_at Equal k l d e ms now here others later = neither _ _ now others
put_plain_at Greater k l d e ms now here others later = neither _ _ here later

-- A member without a float is put among such members.
pub put_plain : (k : List ℕ) (d : Data) (ms : Members) → has_float d ≡ false → members_have_float ms ≡ false → members_have_float (put k d ms) ≡ false
put_plain k d no_members now others = neither _ _ now refl
put_plain k d (member l e ms) now all =
    let here = first_false (has_float e) (members_have_float ms) all in
    let others = second_false (has_float e) (members_have_float ms) all in
    put_plain_at (slice_cmp nat_cmp k l) k l d e ms now here others (put_plain k d ms now others)

-- Members without floats are split.
pub front_plain : (es fs : List (String Global × Value)) → members_have_float (members_view (es ++ fs)) ≡ false → members_have_float (members_view es) ≡ false
front_plain [] fs all = refl
front_plain (e ∷ es) fs all = neither _ _ (first_false (has_float (view e.1)) (members_have_float (members_view (es ++ fs))) all) (front_plain es fs (second_false (has_float (view e.1)) (members_have_float (members_view (es ++ fs))) all))

pub back_plain : (es fs : List (String Global × Value)) → members_have_float (members_view (es ++ fs)) ≡ false → members_have_float (members_view fs) ≡ false
back_plain [] fs all = all
back_plain (e ∷ es) fs all = back_plain es fs (second_false (has_float (view e.1)) (members_have_float (members_view (es ++ fs))) all)

key_text : quoted (codes "interfaces") ≡ codes "\"interfaces\""
unfolding escape_byte
key_text = refl

-- The two parts of an object's text.
pub around_text : (es fs : List (String Global × Value)) → All (λ l. is_less (codes "interfaces") l ≡ true) (keys_of es) → All (λ l. is_less (codes "interfaces") l ≡ false) (keys_of fs)
    → (front back : List ℕ) → front ≡ compact_text (object (put (codes "interfaces") (array no_items) (members_view es))) → back ≡ compact_text (object (put (codes "interfaces") (array no_items) (members_view fs)))
    → IsAround (members_view (es ++ fs)) front back
around_text es fs less more front back is_front is_back before after at_end at_front items =
    let k : List ℕ = codes "interfaces" in
    let first : Members = members_view es in
    let rest : Members = behind k (members_view fs) in
    let none : put k (array no_items) first ≡ joined first (member k (array no_items) no_members) =
    ap (λ (l : List (String Global × Value)). put k (array no_items) (members_view l)) (sym (append-nil es)) ∙ put_front k (array no_items) es [] less (All-nil (λ l. is_less k l ≡ false)) in
    let opens : before ≡ 123 ∷ opened k false first =
    append_cancel_right before (123 ∷ opened k false first) (93 ∷ 125 ∷ []) (sym at_end ∙ is_front ∙ ap (λ (ms : Members). 123 ∷ members_text false ms) none ∙ ap (λ (t : List ℕ). 123 ∷ t) (text_parts k false first no_members no_items)) in
    let own : put k (array no_items) (members_view fs) ≡ member k (array no_items) rest = put_front k (array no_items) [] fs (All-nil (λ l. is_less k l ≡ true)) more in
    let closes : after ≡ 93 ∷ members_text true rest =
    append_cancel_left (codes "{\"interfaces\":[") after (93 ∷ members_text true rest) (sym at_front ∙ is_back ∙ ap (λ (ms : Members). 123 ∷ members_text false ms) own
    ∙ ap (λ (t : List ℕ). 123 ∷ (t ++ 58 ∷ 91 ∷ 93 ∷ members_text true rest)) key_text) in
    let text : List ℕ = items_inside false items in
    ap (λ (ms : Members). 123 ∷ members_text false ms) (put_front k (array items) es fs less more)
    ∙ ap (λ (t : List ℕ). 123 ∷ t) (text_parts k false first rest items)
    ∙ ap (λ (t : List ℕ). 123 ∷ (opened k false first ++ t)) (ap (λ (t : List ℕ). t ++ members_text true rest) (items_closed false items) ∙ append_assoc text (93 ∷ []) (members_text true rest))
    ∙ ap (λ (t : List ℕ). t ++ (text ++ 93 ∷ members_text true rest)) (sym opens)
    ∙ ap (λ (t : List ℕ). before ++ (text ++ t)) (sym closes)
