-- Options that are skipped: if one of them can't be skipped, neither can the list.
use Rattle.std.proofs.Common.{◌≡◌, ◌≢◌, ◌<◌, ℕ, List, [], ◌∷◌, length, Some, Ok, sym, ap, subst, arith}
use Rattle.std.specs.Prelude.{All}
use Rattle.std.proofs.lemmas.List.Elements.{All-head, All-tail}
use Rattle.pcap_core.specs.Answer.{Order, Number}
use Rattle.pcap_core.specs.Padded.{Padded, Chain}
use Rattle.pcap_core.proofs.Texts.{number_same}
use Rattle.pcap_options.specs.EnhancedOption.{enhanced_packet}
use Rattle.pcap_options.specs.Options.{CodeLengthText, OptionText, EndMark, OptionList, marked, with_body, may_end_with_body}
use Rattle.pcap_options.specs.Values.{Entry, shape_at, value_of}
use Rattle.pcap_options.proofs.OneList.{head_length, item_same, piece_some}
use Rattle.pcapfile_values.specs.EnhancedOptions.{IsPassed, OptionsText, NoOptions, NoValue}

-- Bytes begin with at most one code and length.
head_same : (order : Order) (code len other_code other_len : ℕ) (s a b : List ℕ) → CodeLengthText order code len s a → CodeLengthText order other_code other_len s b → (code ≡ other_code) × (len ≡ other_len) × (a ≡ b)
head_same order code len other_code other_len s a b h k =
    let first = number_same order 2 code other_code s h.after_code k.after_code h.code_is k.code_is in
    let second = number_same order 2 len other_len k.after_code a b (subst (λ (t : List ℕ). Number order 2 len t a) first.1 h.length_is) k.length_is in
    (first.0, second.0, second.1)

-- The option is skipped.
abbrev Passed : Entry → Type 0
Passed option = IsPassed option.code

-- The bytes are no list of skipped options if they begin with neither the end mark nor such an option.
module _ (order : Order) (s : List ℕ) (some : s ≢ []) (no_mark : (rest : List ℕ) → EndMark order s rest → ⊥)
    (no_option : (option : Entry) (after : List ℕ) (more : List Entry) (rest : List ℕ) → OptionText order enhanced_packet option s after → IsPassed option.code → OptionsText order more after rest → ⊥) where
  stops_list : (options : List Entry) (rest : List ℕ) → OptionList may_end_with_body order enhanced_packet options s rest → All (λ option. IsPassed option.code) options → ⊥
  stops_list [] rest (marked end are is) passed = no_mark rest (subst (λ (t : List ℕ). EndMark order t rest) (sym are) is)
  stops_list [] rest (with_body are over none) passed = some are
  stops_list (option ∷ more) rest (marked end are is) passed = no_option option are.0 more rest are.1 (All-head Passed option more passed) (record { list = marked end are.2 is; passed = All-tail Passed option more passed })
  stops_list (option ∷ more) rest (with_body are over none) passed = no_option option are.0 more rest are.1 (All-head Passed option more passed) (record { list = with_body are.2 tt none; passed = All-tail Passed option more passed })

  stops : NoOptions order s
  stops options rest text = stops_list options rest text.list text.passed

-- An end mark is not the head of an option.
mark_no_code : (order : Order) (code len : ℕ) (s after rest : List ℕ) → CodeLengthText order code len s after → code ≢ 0 → EndMark order s rest → ⊥
mark_no_code order code len s after rest head some mark = some (head_same order code len 0 mark.ignored s after rest head mark.head).0

head_some : (order : Order) (code len : ℕ) (s after : List ℕ) → CodeLengthText order code len s after → s ≢ []
head_some order code len s after head none = omega (arith, head_length order code len s after head, ap length none)

-- Fewer than four bytes have no head of an option.
pub short_stops : (order : Order) (s : List ℕ) → s ≢ [] → length s < 4 → NoOptions order s
short_stops order s some short =
    stops order s some
    (λ rest mark. omega (arith, head_length order 0 mark.ignored s rest mark.head, short))
    (λ option after more rest text passed options. omega (arith, head_length order option.code (length text.v) s text.after_head text.head, short))

-- A value that can't be skipped ends the list.
pub value_stops : (order : Order) (code len : ℕ) (s after : List ℕ) → CodeLengthText order code len s after → code ≢ 0 → NoValue order code len after → NoOptions order s
value_stops order code len s after head some none =
    stops order s (head_some order code len s after head)
    (λ rest mark. mark_no_code order code len s after rest head some mark)
    (λ option behind more rest text passed options.
    let same = head_same order option.code (length text.v) code len s text.after_head after text.head head in
    none behind (record {
      bytes = text.v;
      value = option.value;
      length_is = same.1;
      padded = subst (λ (t : List ℕ). Padded text.v t behind) same.2 text.padded;
      value_is = subst (λ (c : ℕ). value_of order (shape_at enhanced_packet c) text.v ≡ Ok option.value) same.0 text.value_is;
      passed = subst IsPassed same.0 passed;
    }))

-- The rest after one option can't be skipped.
behind_one : (order : Order) (first : Entry) (s after : List ℕ) → OptionText order enhanced_packet first s after → NoOptions order after → NoOptions order s
behind_one order first s after text none =
    stops order s (piece_some order enhanced_packet s after (Some first) text)
    (λ rest mark. mark_no_code order first.code (length text.v) s text.after_head rest text.head text.no_mark mark)
    (λ option behind more rest other passed options.
    let same = item_same order enhanced_packet first option s after behind text other in
    none more rest (subst (λ (t : List ℕ). OptionsText order more t rest) (sym same.1) options))

-- The rest after several options can't be skipped.
pub behind_stops : (order : Order) (options : List Entry) (s left : List ℕ) → Chain (OptionText order enhanced_packet) options s left → NoOptions order left → NoOptions order s
behind_stops order [] s left are none = subst (NoOptions order) (sym are) none
behind_stops order (first ∷ options) s left are none = behind_one order first s are.0 are.1 (behind_stops order options are.0 left are.2 none)
