-- The options of the section header of a merge ('Section Header Block').
use Rattle.std.specs.Prelude.{◌≡◌, ◌<◌, ◌==◌, ◌&&◌, ◌+◌, ◌++◌, ℕ, List, [], ◌∷◌, length, Bool, false, nat_eq, nat_le, codes, if◌then◌else◌, Option, None, Some}
use Rattle.std.specs.Cmp.Lexicographic.{pointwise}
use Rattle.std.specs.List.{flat_map, list_any}
use Rattle.std.specs.Option.{option_map}
use Rattle.pcap_options.specs.Values.{Bytes, CustomBytes, CustomStr, Entry, Integer, Str, Unknown, Value}
use Rattle.pcap_options.specs.Held.{first_under, string_in}

-- Two values are the same. The length of an unknown value is that of its bytes.
abbrev pub is_same_value : Value → Value → Bool
is_same_value (Str s) (Str t) = pointwise nat_eq s t
is_same_value (Bytes s) (Bytes t) = pointwise nat_eq s t
is_same_value (Integer m) (Integer n) = m == n
is_same_value (CustomStr p s) (CustomStr q t) = p == q && pointwise nat_eq s t
is_same_value (CustomBytes p s) (CustomBytes q t) = p == q && pointwise nat_eq s t
is_same_value (Unknown m s) (Unknown n t) = pointwise nat_eq s t
is_same_value _ _ = false

-- A value as a reader has it: if it is unknown, its length is that of its bytes.
abbrev pub with_own_length : Value → Value
with_own_length (Unknown n s) = Unknown (length s) s
with_own_length value = value

-- Two options are the same: they have the same code and the same value.
abbrev pub is_same : Entry → Entry → Bool
is_same a b = a.code == b.code && is_same_value a.value b.value

-- The code and the string of an option of which a section header has at most one: hardware (2), operating system (3) or application (4).
abbrev pub single_of : Entry → Option (ℕ × List ℕ)
single_of entry = if nat_le 2 entry.code && nat_le entry.code 4 then option_map (λ text. (entry.code, text)) (string_in entry.value) else None

-- The word for an option with this code.
abbrev pub word_for : ℕ → List ℕ
word_for code = if code == 2 then codes "hardware" else if code == 3 then codes "os" else codes "application"

abbrev pub comment : List ℕ → Entry
comment text = record { code = 1; value = Str text }

-- The comment on an option that the section header can't have: the name of its capture, the word for it and its string. If these don't fit
-- into one option, a second comment has the string.
abbrev pub comments_on : List ℕ → ℕ × List ℕ → List Entry
comments_on name single =
    let front = name ++ codes ": " ++ word_for single.0 ++ codes ": " in
    if nat_le (length front + length single.1) 65535 then comment (front ++ single.1) ∷ [] else comment front ∷ comment single.1 ∷ []

-- The code and the string of an option of which there is at most one, if an earlier header has another one of its kind.
abbrev pub conflict_with : List Entry → Entry → Option (ℕ × List ℕ)
conflict_with earlier entry = elim (single_of entry) [
  | None ↦ None
  | Some single ↦ elim (first_under single.0 string_in earlier) [ None ↦ None | Some text ↦ Some single ]
]

-- What an option that no earlier header has adds: comments if it conflicts with one, and else itself.
abbrev pub unlike_earlier : List ℕ → List Entry → Entry → List Entry
unlike_earlier name earlier entry = elim (conflict_with earlier entry) [ None ↦ entry ∷ [] | Some single ↦ comments_on name single ]

-- What an option of the capture with this name adds to those of earlier headers: nothing if one of these is the same.
abbrev pub added : List ℕ → List Entry → Entry → List Entry
added name earlier entry = if list_any (is_same entry) earlier then [] else unlike_earlier name earlier entry

-- The options after those of one more section header, of the capture with this name.
abbrev pub options_with : List ℕ → List Entry → List Entry → List Entry
options_with name earlier entries = earlier ++ flat_map (added name earlier) entries

-- AddsFewer: after the earlier options come the first of the options to add, but not all of them.
pub record AddsFewer (adds earlier now : List Entry) : Type 0 where
  pub first : List Entry
  pub left : List Entry
  pub follow : now ≡ earlier ++ first
  pub are_first : adds ≡ first ++ left
  pub not_all : 0 < length left
