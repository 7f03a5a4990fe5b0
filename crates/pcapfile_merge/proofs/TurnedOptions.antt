-- A big-endian list of options turns into the little-endian list of the same options.
use Rattle.std.proofs.Common.{◌≡◌, ◌≢◌, ◌+◌, ◌≤◌, ◌<◌, ◌++◌, ◌∷◌, [], ℕ, suc, zero, Bool, true, false, List, length, take, drop, length-append, length-drop, append_assoc, append-nil, arith, refl, sym, ap, subst, ◌∙◌}
use Rattle.std.specs.Prelude.{◌==◌, ◌||◌, ◌&&◌, nat_le, nat_lt, if◌then◌else◌, Result, Ok, Err, reverse}
use Rattle.std.proofs.lemmas.List.{drop-append-le, drop-drop, drop_at, length-reverse, length-take, nil_from_length, take-append-drop, take-append-le, take_at}
use Rattle.std.proofs.lemmas.Bool.{eqb-true}
use Rattle.std.proofs.lemmas.Bool.Decides.{nat_tests}
use Rattle.byteorder.specs.Endian.{big_number, little_number}
use Rattle.pcap_core.specs.Answer.{Number}
use Rattle.pcap_core.specs.Faults.{Fault, Io}
use Rattle.pcap_core.specs.Padded.{Chain, Padded, up_to_4}
use Rattle.pcap_core.proofs.Padded.{split_padded}
use Rattle.pcap_options.specs.Options.{CodeLengthText, EndMark, OptionList, OptionText, marked, may_end_with_body, with_body}
use Rattle.pcap_options.specs.Values.{CustomBytes, Entry, Shape, Unknown, Value, custom_bytes, shape_at, unknown, value_of}
use Rattle.pcapfile_merge.proofs.LittleOptions.{after_none, turned_none}
use Rattle.pcapfile_merge.specs.Little.{after_options, are_options, code_at, is_end, len_at, number_width, numbered_kind, option_size, size_within, turned, turned_all, turned_option, turned_options}

two_bytes : (l : List ℕ) → length l ≡ 2 → (a : ℕ) × (b : ℕ) × (l ≡ a ∷ b ∷ [])
two_bytes [] is = absurd (omega arith)
two_bytes (a ∷ []) is = absurd (omega arith)
two_bytes (a ∷ b ∷ []) is = (a, b, refl)
two_bytes (a ∷ b ∷ c ∷ l) is = absurd (omega arith)

two_turned : (a b : ℕ) → little_number 2 (b ∷ a ∷ []) ≡ big_number 2 (a ∷ b ∷ [])
two_turned a b = omega arith

four_turned : (a b c d : ℕ) → little_number 4 (d ∷ c ∷ b ∷ a ∷ []) ≡ big_number 4 (a ∷ b ∷ c ∷ d ∷ [])
four_turned a b c d = omega arith

-- Heads code len s after: s is a code, a length, and what is after them.
pub record Head (code len : ℕ) (s after : List ℕ) : Type 0 where
  pub a : ℕ
  pub b : ℕ
  pub c : ℕ
  pub d : ℕ
  pub text : s ≡ a ∷ b ∷ c ∷ d ∷ after
  pub code_is : big_number 2 (a ∷ b ∷ []) ≡ code
  pub len_is : big_number 2 (c ∷ d ∷ []) ≡ len

head_of : (code len : ℕ) (s after : List ℕ) → CodeLengthText big_number code len s after → Head code len s after
head_of code len s after head =
    let code_is = head.code_is in
    let length_is = head.length_is in
    let first = two_bytes code_is.bytes code_is.length_is in
    let second = two_bytes length_is.bytes length_is.length_is in
    record {
      a = first.0;
      b = first.1;
      c = second.0;
      d = second.1;
      text =
          code_is.text
          ∙ ap (λ (l : List ℕ). l ++ head.after_code) first.2
          ∙ ap (λ (l : List ℕ). first.0 ∷ first.1 ∷ l) (length_is.text ∙ ap (λ (l : List ℕ). l ++ after) second.2);
      code_is = sym (ap (big_number 2) first.2) ∙ code_is.value;
      len_is = sym (ap (big_number 2) second.2) ∙ length_is.value;
    }

little_head : (code len : ℕ) (s after rest : List ℕ) (h : Head code len s after) → CodeLengthText little_number code len (h.b ∷ h.a ∷ h.d ∷ h.c ∷ rest) rest
little_head code len s after rest h = record {
  after_code = h.d ∷ h.c ∷ rest;
  code_is = record { bytes = h.b ∷ h.a ∷ []; text = refl; length_is = refl; value = two_turned h.a h.b ∙ h.code_is };
  length_is = record { bytes = h.d ∷ h.c ∷ []; text = refl; length_is = refl; value = two_turned h.c h.d ∙ h.len_is };
}

-- The size of an option with this code and this length.
abbrev size_for : ℕ → ℕ → ℕ → ℕ
size_for code len all = if (code == 0) || nat_lt len (number_width code) then 0 else size_within 4 len all

size_by : (code width len all : ℕ) → code ≢ 0 → width ≤ len → 4 + up_to_4 len ≤ all → (if (code == 0) || nat_lt len width then 0 else size_within 4 len all) ≡ 4 + up_to_4 len
size_by code width len all some wide within = grind (arith, nat_tests)

size_at : (code len : ℕ) (s after : List ℕ) → Head code len s after → option_size s ≡ size_for code len (length s)
unfolding option_size
size_at code len s after h =
    let t = h.a ∷ h.b ∷ h.c ∷ h.d ∷ after in
    ap option_size h.text
    ∙ ap (λ (k : ℕ). size_for k (len_at t) (length t)) h.code_is
    ∙ ap (λ (k : ℕ). size_for code k (length t)) h.len_is
    ∙ ap (λ (l : List ℕ). size_for code len (length l)) (sym h.text)

mark_size : (ignored : ℕ) (s rest : List ℕ) → Head 0 ignored s rest → option_size s ≡ 0
mark_size ignored s rest h = size_at 0 ignored s rest h

empty_size : option_size [] ≡ 0
unfolding option_size
empty_size = refl

-- The value of an option, with its enterprise number turned.
turned_value : ℕ → List ℕ → List ℕ
turned_value width v = reverse (take width v) ++ drop width v

turned_long : (width : ℕ) (v : List ℕ) → length (turned_value width v) ≡ length v
unfolding turned_value
turned_long width v = omega (arith, length-append (reverse (take width v)) (drop width v), length-reverse (take width v), length-take width v, length-drop width v)

-- The shape and the width for a code that is one of the custom ones, or none of them.
abbrev shape_if : Bool → Bool → Bool → Bool → Shape
shape_if a b c d = if a then custom_bytes else if b then custom_bytes else if c then custom_bytes else if d then custom_bytes else unknown

abbrev width_if : Bool → Bool → Bool → Bool → ℕ
width_if a b c d = if a || b || c || d then 4 else 0

-- This width fits a value of this shape, and with its number turned the value is the same in little-endian order.
record Turning (shape : Shape) (width : ℕ) (v : List ℕ) (value : Value) : Type 0 where
  pub wide : width ≤ length v
  pub same : value_of little_number shape (turned_value width v) ≡ Ok value

custom_if : (order : ℕ → List ℕ → ℕ) (v : List ℕ) (short : Bool) (value : Value) → (if short then Err Io else Ok (CustomBytes (order 4 (take 4 v)) (drop 4 v))) ≡ Ok value → short ≡ false
custom_if order v true value is = absurd cc
custom_if order v false value is = refl

custom_long : (order : ℕ → List ℕ → ℕ) (v : List ℕ) (value : Value) → value_of order custom_bytes v ≡ Ok value → 4 ≤ length v
custom_long order v value is = let long = custom_if order v (nat_lt (length v) 4) value is in grind (arith, nat_tests)

custom_said : (order : ℕ → List ℕ → ℕ) (v : List ℕ) → 4 ≤ length v → value_of order custom_bytes v ≡ Ok (CustomBytes (order 4 (take 4 v)) (drop 4 v))
custom_said order v long =
    let not_short : nat_lt (length v) 4 ≡ false = grind (arith, nat_tests) in
    ap (λ (b : Bool). if b then Err Io else Ok (CustomBytes (order 4 (take 4 v)) (drop 4 v))) not_short

turned_four : (v : List ℕ) → 4 ≤ length v → CustomBytes (little_number 4 (take 4 (turned_value 4 v))) (drop 4 (turned_value 4 v)) ≡ CustomBytes (big_number 4 (take 4 v)) (drop 4 v)
unfolding turned_value
turned_four [] long = absurd (omega arith)
turned_four (a ∷ []) long = absurd (omega arith)
turned_four (a ∷ b ∷ []) long = absurd (omega arith)
turned_four (a ∷ b ∷ c ∷ []) long = absurd (omega arith)
turned_four (a ∷ b ∷ c ∷ d ∷ v) long = ap (λ (n : ℕ). CustomBytes n v) (four_turned a b c d)

custom_turns : (v : List ℕ) (value : Value) → value_of big_number custom_bytes v ≡ Ok value → Turning custom_bytes 4 v value
custom_turns v value is =
    let long = custom_long big_number v value is in
    let still : 4 ≤ length (turned_value 4 v) = omega (arith, turned_long 4 v, long) in
    record {
      wide = long;
      same = custom_said little_number (turned_value 4 v) still ∙ ap Ok (turned_four v long) ∙ sym (custom_said big_number v long) ∙ is;
    }

unknown_turns : (v : List ℕ) (value : Value) → value_of big_number unknown v ≡ Ok value → Turning unknown 0 v value
unfolding turned_value
unknown_turns v value is = record { wide = omega arith; same = is }

turns_if : (a b c d : Bool) (v : List ℕ) (value : Value) → value_of big_number (shape_if a b c d) v ≡ Ok value → Turning (shape_if a b c d) (width_if a b c d) v value
turns_if true b c d v value is = custom_turns v value is
turns_if false true c d v value is = custom_turns v value is
turns_if false false true d v value is = custom_turns v value is
turns_if false false false true v value is = custom_turns v value is
turns_if false false false false v value is = unknown_turns v value is

value_turns : (code : ℕ) (v : List ℕ) (value : Value) → value_of big_number (shape_at numbered_kind code) v ≡ Ok value → Turning (shape_at numbered_kind code) (number_width code) v value
value_turns code v value is = turns_if (code == 2988) (code == 2989) (code == 19372) (code == 19373) v value is

-- One option at the beginning of some bytes, as it is in a big-endian section.
module _ (option : Entry) (s rest : List ℕ) (text : OptionText big_number numbered_kind option s rest) where
  head : Head option.code (length text.v) s text.after_head
  head = head_of option.code (length text.v) s text.after_head text.head

  turning : Turning (shape_at numbered_kind option.code) (number_width option.code) text.v option.value
  turning = value_turns option.code text.v option.value text.value_is

  -- The bytes of the option.
  bytes : List ℕ
  bytes = head.a ∷ head.b ∷ head.c ∷ head.d ∷ (text.v ++ text.padded.padding)

  bytes_first : s ≡ bytes ++ rest
  unfolding bytes
  bytes_first = head.text ∙ ap (λ (l : List ℕ). head.a ∷ head.b ∷ head.c ∷ head.d ∷ l) text.padded.text

  bytes_long : length bytes ≡ 4 + up_to_4 (length text.v)
  unfolding bytes
  bytes_long = omega (arith, length-append text.v text.padded.padding, text.padded.aligned)

  within : 4 + up_to_4 (length text.v) ≤ length s
  within = omega (arith, bytes_long, ap length bytes_first, length-append bytes rest)

  size_of : option_size s ≡ 4 + up_to_4 (length text.v)
  size_of = size_at option.code (length text.v) s text.after_head head ∙ size_by option.code (number_width option.code) (length text.v) (length s) text.no_mark turning.wide within

  size_bytes : length bytes ≡ option_size s
  size_bytes = bytes_long ∙ sym size_of

  taken : take (option_size s) s ≡ bytes
  taken = ap (take (option_size s)) bytes_first ∙ take_at bytes rest (option_size s) size_bytes

  pub left : drop (option_size s) s ≡ rest
  left = ap (drop (option_size s)) bytes_first ∙ drop_at bytes rest (option_size s) size_bytes

  pub longer : 4 + length rest ≤ length s
  longer = omega (arith, bytes_long, ap length bytes_first, length-append bytes rest)

  -- The value, turned, and its padding.
  pieces : turned_value (number_width option.code) (text.v ++ text.padded.padding) ≡ turned_value (number_width option.code) text.v ++ text.padded.padding
  unfolding turned_value
  pieces =
      let w = number_width option.code in
      let p = text.padded.padding in
      let wide = turning.wide in
      ap (λ (l : List ℕ). reverse l ++ drop w (text.v ++ p)) (take-append-le w text.v p wide)
      ∙ ap (λ (l : List ℕ). reverse (take w text.v) ++ l) (drop-append-le w text.v p wide)
      ∙ sym (append_assoc (reverse (take w text.v)) (drop w text.v) p)

  little_bytes : List ℕ
  little_bytes = head.b ∷ head.a ∷ head.d ∷ head.c ∷ (turned_value (number_width option.code) text.v ++ text.padded.padding)

  turned_bytes : turned_option bytes ≡ little_bytes
  unfolding bytes little_bytes turned_value
  turned_bytes =
      ap (λ (code : ℕ). head.b ∷ head.a ∷ head.d ∷ head.c ∷ turned_value (number_width code) (text.v ++ text.padded.padding)) head.code_is
      ∙ ap (λ (l : List ℕ). head.b ∷ head.a ∷ head.d ∷ head.c ∷ l) pieces

  little_there : (after : List ℕ) → OptionText little_number numbered_kind option (little_bytes ++ after) after
  unfolding little_bytes
  little_there after =
      let w = number_width option.code in
      let value = turned_value w text.v in
      let long : length value ≡ length text.v = turned_long w text.v in
      record {
        v = value;
        after_head = (value ++ text.padded.padding) ++ after;
        head = subst (λ (n : ℕ). CodeLengthText little_number option.code n (little_bytes ++ after) ((value ++ text.padded.padding) ++ after)) (sym long) (little_head option.code (length text.v) s text.after_head ((value ++ text.padded.padding) ++ after) head);
        no_mark = text.no_mark;
        padded = record { padding = text.padded.padding; text = refl; aligned = ap (λ (n : ℕ). n + length text.padded.padding) long ∙ text.padded.aligned ∙ ap up_to_4 (sym long) };
        value_is = turning.same;
      }

  pub little_option : (after : List ℕ) → OptionText little_number numbered_kind option (turned_option (take (option_size s) s) ++ after) after
  little_option after = subst (λ (l : List ℕ). OptionText little_number numbered_kind option (l ++ after) after) (sym (ap turned_option taken ∙ turned_bytes)) (little_there after)

-- The bytes after the options of a list.
chain_after : (n : ℕ) (options : List Entry) (s end : List ℕ) → length s ≤ n → option_size end ≡ 0 → Chain (OptionText big_number numbered_kind) options s end → after_options n s ≡ end
unfolding after_options
chain_after n [] s end enough none are = after_none n s (ap option_size are ∙ none) ∙ are
chain_after zero (option ∷ options) s end enough none are = let more = longer option s are.0 are.1 in absurd (omega arith)
chain_after (suc n) (option ∷ options) s end enough none are =
    let more = longer option s are.0 are.1 in
    ap (after_options n) (left option s are.0 are.1) ∙ chain_after n options are.0 end (omega arith) none are.2

-- The options of a list turn, and its end.
chain_turned : (n : ℕ) (options : List Entry) (s end : List ℕ) → length s ≤ n → option_size end ≡ 0 → Chain (OptionText big_number numbered_kind) options s end
    → Chain (OptionText little_number numbered_kind) options (turned_options n s) (turned (2 ∷ 2 ∷ []) end)
unfolding turned_options
chain_turned n [] s end enough none are = turned_none n s (ap option_size are ∙ none) ∙ ap (turned (2 ∷ 2 ∷ [])) are
chain_turned zero (option ∷ options) s end enough none are = let more = longer option s are.0 are.1 in absurd (omega arith)
chain_turned (suc n) (option ∷ options) s end enough none are =
    let more = longer option s are.0 are.1 in
    let rest = turned_options n are.0 in
    let same : turned_option (take (option_size s) s) ++ rest ≡ turned_option (take (option_size s) s) ++ turned_options n (drop (option_size s) s) =
    ap (λ (l : List ℕ). turned_option (take (option_size s) s) ++ turned_options n l) (sym (left option s are.0 are.1)) in (
      rest,
      subst (λ (l : List ℕ). OptionText little_number numbered_kind option l rest) same (little_option option s are.0 are.1 rest),
      chain_turned n options are.0 end (omega arith) none are.2,
    )

mark_by : (n : ℕ) → 4 ≤ n → ((n == 0) || (nat_le 4 n && (0 == 0))) ≡ true
mark_by n long = grind (arith, nat_tests)

-- A mark of the end, in both orders.
module _ (s rest : List ℕ) (mark : EndMark big_number s rest) where
  mark_head : Head 0 mark.ignored s rest
  mark_head = head_of 0 mark.ignored s rest mark.head

  pub mark_none : option_size s ≡ 0
  mark_none = mark_size mark.ignored s rest mark_head

  pub mark_end : is_end s ≡ true
  unfolding is_end
  mark_end =
      let t = mark_head.a ∷ mark_head.b ∷ mark_head.c ∷ mark_head.d ∷ rest in
      let long : 4 ≤ length t = omega arith in
      ap is_end mark_head.text ∙ ap (λ (code : ℕ). (length t == 0) || (nat_le 4 (length t) && (code == 0))) mark_head.code_is ∙ mark_by (length t) long

  pub mark_turned : EndMark little_number (turned (2 ∷ 2 ∷ []) s) rest
  mark_turned =
      let little : EndMark little_number (mark_head.b ∷ mark_head.a ∷ mark_head.d ∷ mark_head.c ∷ rest) rest = record { ignored = mark.ignored; head = little_head 0 mark.ignored s rest rest mark_head } in
      subst (λ (l : List ℕ). EndMark little_number l rest) (sym (ap (turned (2 ∷ 2 ∷ [])) mark_head.text)) little

nothing_ends : is_end [] ≡ true
unfolding is_end
nothing_ends = refl

pub list_kept : (options : List Entry) (s rest : List ℕ) → OptionList may_end_with_body big_number numbered_kind options s rest → are_options s ≡ true
list_kept options s rest (marked end are mark) = ap is_end (chain_after (length s) options s end (omega arith) (mark_none end rest mark) are) ∙ mark_end end rest mark
list_kept options s rest (with_body are over none) = ap is_end (chain_after (length s) options s [] (omega arith) empty_size are) ∙ nothing_ends

pub list_turned : (options : List Entry) (s rest : List ℕ) → OptionList may_end_with_body big_number numbered_kind options s rest → OptionList may_end_with_body little_number numbered_kind options (turned_all s) rest
list_turned options s rest (marked end are mark) = marked (turned (2 ∷ 2 ∷ []) end) (chain_turned (length s) options s end (omega arith) (mark_none end rest mark) are) (mark_turned end rest mark)
list_turned options s rest (with_body are over none) = with_body (chain_turned (length s) options s [] (omega arith) empty_size are) over none

-- If the size of an option isn't 0, it has a code, its value is as long as its number, and it is whole.
some_code : (code width len all : ℕ) → (if (code == 0) || nat_lt len width then 0 else size_within 4 len all) ≢ 0 → code ≢ 0
some_code code width len all some = λ zero. some (ap (λ (k : ℕ). if (k == 0) || nat_lt len width then 0 else size_within 4 len all) zero)

some_wide : (code width len all : ℕ) → (if (code == 0) || nat_lt len width then 0 else size_within 4 len all) ≢ 0 → width ≤ len
some_wide code width len all some = grind (arith, nat_tests)

some_whole : (code width len all : ℕ) → (if (code == 0) || nat_lt len width then 0 else size_within 4 len all) ≢ 0 → 4 + up_to_4 len ≤ all
some_whole code width len all some = grind (arith, nat_tests)

-- A value that is long enough for its code.
value_if : (a b c d : Bool) (v : List ℕ) → width_if a b c d ≤ length v → (value : Value) × (value_of big_number (shape_if a b c d) v ≡ Ok value)
value_if true b c d v long = (CustomBytes (big_number 4 (take 4 v)) (drop 4 v), custom_said big_number v long)
value_if false true c d v long = (CustomBytes (big_number 4 (take 4 v)) (drop 4 v), custom_said big_number v long)
value_if false false true d v long = (CustomBytes (big_number 4 (take 4 v)) (drop 4 v), custom_said big_number v long)
value_if false false false true v long = (CustomBytes (big_number 4 (take 4 v)) (drop 4 v), custom_said big_number v long)
value_if false false false false v long = (Unknown (length v) v, refl)

two_taken : (s : List ℕ) → 2 ≤ length s → Number big_number 2 (code_at s) s (drop 2 s)
two_taken s long = record { bytes = take 2 s; text = sym (take-append-drop 2 s); length_is = omega (arith, length-take 2 s); value = refl }

head_taken : (s : List ℕ) → 4 ≤ length s → CodeLengthText big_number (code_at s) (len_at s) s (drop 2 (drop 2 s))
head_taken s long = record { after_code = drop 2 s; code_is = two_taken s (omega arith); length_is = two_taken (drop 2 s) (omega (arith, length-drop 2 s)) }

-- An option is at the beginning of some bytes if its size isn't 0.
option_there : (s : List ℕ) → option_size s ≢ 0 → (option : Entry) × OptionText big_number numbered_kind option s (drop (option_size s) s)
unfolding option_size
option_there s some =
    let code = code_at s in
    let len = len_at s in
    let width = number_width code in
    let size = up_to_4 len in
    let after = drop 2 (drop 2 s) in
    let whole : 4 + size ≤ length s = some_whole code width len (length s) some in
    let wide : width ≤ len = some_wide code width len (length s) some in
    let is : option_size s ≡ 4 + size = size_by code width len (length s) (some_code code width len (length s) some) wide whole in
    let fits : size ≤ length after = omega (arith, whole, length-drop 2 s, length-drop 2 (drop 2 s)) in
    let v = take len (take size after) in
    let padded : Padded v after (drop size after) = split_padded len size after refl fits in
    let long : length v ≡ len = omega (arith, fits, length-take len (take size after), length-take size after) in
    let read = value_if (code == 2988) (code == 2989) (code == 19372) (code == 19373) v (subst (λ (n : ℕ). width ≤ n) (sym long) wide) in
    let sum : 2 + (2 + size) ≡ option_size s = omega (arith, is) in
    let over : drop size after ≡ drop (option_size s) s = drop-drop size 2 (drop 2 s) ∙ drop-drop (2 + size) 2 s ∙ ap (λ (n : ℕ). drop n s) sum in
    let head : CodeLengthText big_number code (length v) s after = subst (λ (n : ℕ). CodeLengthText big_number code n s after) (sym long) (head_taken s (omega (arith, whole))) in (
      record { code = code; value = read.0 },
      subst (λ (l : List ℕ). OptionText big_number numbered_kind (record { code = code; value = read.0 }) s l) over (
          record { v = v; after_head = after; head = head; no_mark = some_code code width len (length s) some; padded = padded; value_is = read.1 }
          ),
    )

-- The options before the bytes after n options.
abbrev Before : ℕ → List ℕ → Type 0
Before n s = (options : List Entry) × (Chain (OptionText big_number numbered_kind) options s (after_options n s) × (option_size (after_options n s) ≡ 0))

options_if : (n size : ℕ) (s : List ℕ) → option_size s ≡ size → length s ≤ n → Before n s
unfolding after_options
options_if n zero s is enough = let same = after_none n s is in ([], (sym same, ap option_size same ∙ is))
options_if zero (suc size) s is enough =
    let some : option_size s ≢ 0 = λ none. omega (arith, is, none) in
    let first = option_there s some in
    let more = longer first.0 s (drop (option_size s) s) first.1 in
    absurd (omega arith)
options_if (suc n) (suc size) s is enough =
    let some : option_size s ≢ 0 = λ none. omega (arith, is, none) in
    let first = option_there s some in
    let rest = drop (option_size s) s in
    let more = longer first.0 s rest first.1 in
    let others = options_if n (option_size rest) rest refl (omega arith) in
    (first.0 ∷ others.0, ((rest, first.1, others.1.0), others.1.1))

-- A list of options ends where a mark or nothing is.
module _ (options : List Entry) (s end : List ℕ) (are : Chain (OptionText big_number numbered_kind) options s end) where
  IsList : Type 0
  IsList = (rest : List ℕ) × OptionList may_end_with_body big_number numbered_kind options s rest

  end_if : (b : Bool) → (length end == 0) ≡ b → (b || (nat_le 4 (length end) && (code_at end == 0))) ≡ true → IsList
  unfolding IsList
  end_if true is over =
      let nothing = nil_from_length end (eqb-true (length end) 0 is) in
      ([], with_body (subst (λ (l : List ℕ). Chain (OptionText big_number numbered_kind) options s l) nothing are) tt refl)
  end_if false is over =
      let long : 4 ≤ length end = grind (arith, nat_tests) in
      let zero_code : code_at end ≡ 0 = grind (arith, nat_tests) in
      let rest = drop 2 (drop 2 end) in
      (rest, marked end are (record { ignored = len_at end; head = subst (λ (code : ℕ). CodeLengthText big_number code (len_at end) end rest) zero_code (head_taken end long) }))

  list_by : is_end end ≡ true → IsList
  unfolding is_end
  list_by over = end_if (length end == 0) refl over

pub list_was : (s : List ℕ) → are_options s ≡ true → (options : List Entry) × ((rest : List ℕ) × OptionList may_end_with_body big_number numbered_kind options s rest)
unfolding IsList
list_was s kept =
    let found = options_if (length s) (option_size s) s refl (omega arith) in
    (found.0, list_by found.0 s (after_options (length s) s) found.1.0 kept)
