-- The options of enhanced packets that the reader skips.
use Rattle.std.specs.Prelude.{◌≡◌, ◌≤◌, ℕ, List, length, All, Ok}
use Rattle.pcap_core.specs.Answer.{Order}
use Rattle.pcap_core.specs.Padded.{Padded}
use Rattle.pcap_options.specs.EnhancedOption.{enhanced_packet}
use Rattle.pcap_options.specs.Options.{OptionList, may_end_with_body}
use Rattle.pcap_options.specs.Values.{Entry, Value, shape_at, value_of}

-- The reader skips options of this code: flags (2), a hash (3), and a count of lost packets (4).
abbrev pub IsPassed : ℕ → Type 0
IsPassed code = (2 ≤ code) × (code ≤ 4)

-- OptionsText order options s rest: `s` is a list of an enhanced packet's options and then `rest`, and the reader skips each of them.
pub record OptionsText (order : Order) (options : List Entry) (s rest : List ℕ) : Type 0 where
  pub list : OptionList may_end_with_body order enhanced_packet options s rest
  pub passed : All (λ option. IsPassed option.code) options

-- The list of options is refused, or it has an option that the reader doesn't skip.
abbrev pub NoOptions : Order → List ℕ → Type 0
NoOptions order s = (options : List Entry) (rest : List ℕ) → OptionsText order options s rest → ⊥

-- ValueText order code len s rest: `s` is the padded value of an option of this code and length that the reader skips, and then `rest`.
pub record ValueText (order : Order) (code len : ℕ) (s rest : List ℕ) : Type 0 where
  pub bytes : List ℕ
  pub value : Value
  pub length_is : length bytes ≡ len
  pub padded : Padded bytes s rest
  pub value_is : value_of order (shape_at enhanced_packet code) bytes ≡ Ok value
  pub passed : IsPassed code

-- The bytes are no such value: it is refused, or the reader doesn't skip the option.
abbrev pub NoValue : Order → ℕ → ℕ → List ℕ → Type 0
NoValue order code len s = (rest : List ℕ) → ValueText order code len s rest → ⊥
