-- Lists of options, for every kind of option ('Options').
use Rattle.std.specs.Prelude.{◌≡◌, ◌≢◌, ◌<◌, ℕ, List, [], length, Ok, Err, Option, Some, None}
use Rattle.pcap_core.specs.Answer.{Order, Number, Verdict, whole, lacks, faulty, Says}
use Rattle.pcap_core.specs.Faults.{Fault, Invalid}
use Rattle.pcap_core.specs.declared.rules.Rule.TheVariants.{OptionTooShort, OptionCut}
use Rattle.pcap_core.specs.Padded.{up_to_4, Padded, Chain}
use Rattle.pcap_options.specs.Values.{Entry, Kind, shape_at, value_of}
use Rattle.pcap_options.specs.Growth.{BeginsWith}

-- `s` is a code (or the type of a record), a length, and then `rest`.
pub record CodeLengthText (order : Order) (code len : ℕ) (s rest : List ℕ) : Type 0 where
  pub after_code : List ℕ
  pub code_is : Number order 2 code s after_code
  pub length_is : Number order 2 len after_code rest

-- `s` is an option and then `rest`: the option's code, the length of its value, and the value with its padding.
pub record OptionText (order : Order) (kind : Kind) (option : Entry) (s rest : List ℕ) : Type 0 where
  pub v : List ℕ
  pub after_head : List ℕ
  pub head : CodeLengthText order option.code (length v) s after_head
  pub no_mark : option.code ≢ 0
  pub padded : Padded v after_head rest
  pub value_is : value_of order (shape_at kind option.code) v ≡ Ok option.value

-- `s` is the end-of-options option and then `rest`: the code 0 and a length, which is ignored.
pub record EndMark (order : Order) (s rest : List ℕ) : Type 0 where
  pub ignored : ℕ
  pub head : CodeLengthText order 0 ignored s rest

-- The first fault of `s` as an option or the end-of-options option: too few bytes, a cut value, or a malformed value.
pub data OptionFault (order : Order) (kind : Kind) (s : List ℕ) : Fault → Type 0 where
  short : length s < 4 → OptionFault order kind s (Invalid OptionTooShort)
  cut : (code len : ℕ) (after : List ℕ) → CodeLengthText order code len s after → code ≢ 0 → length after < up_to_4 len
      → OptionFault order kind s (Invalid OptionCut)
  wrong : (fault : Fault) (code : ℕ) (v after rest : List ℕ) → CodeLengthText order code (length v) s after → code ≢ 0 → Padded v after rest
      → value_of order (shape_at kind code) v ≡ Err fault → OptionFault order kind s fault

-- OptionSays order kind s verdict: `s` read as an option gives this verdict: the option, none for the end-of-options option, or a fault.
abbrev pub OptionSays : Order → Kind → List ℕ → Verdict (Option Entry) → Type 0
OptionSays order kind s (whole None rest) = EndMark order s rest
OptionSays order kind s (whole (Some option) rest) = OptionText order kind option s rest
OptionSays order kind s (lacks n) = ⊥
OptionSays order kind s (faulty fault) = OptionFault order kind s fault

-- A list that has begun ends only with the end-of-options option; or it ends with that option or with the body.
pub data Ending : Type 0 where
  wants_end : Ending
  may_end_with_body : Ending

-- The list of these options is over where no byte is left.
abbrev pub IsOver : Ending → List Entry → Type 0
IsOver wants_end options = options ≡ []
IsOver may_end_with_body options = Unit {0}

-- `s` is a list of options and then `rest`: the options, and then the end-of-options option, or no byte if the list may be over there.
pub data OptionList (ending : Ending) (order : Order) (kind : Kind) (options : List Entry) (s rest : List ℕ) : Type 0 where
  marked : (end : List ℕ) → Chain (OptionText order kind) options s end → EndMark order end rest → OptionList ending order kind options s rest
  with_body : Chain (OptionText order kind) options s [] → IsOver ending options → rest ≡ [] → OptionList ending order kind options s rest

-- The fault of a list is the fault that follows some well-formed options, where the list isn't over.
pub record ListFault (ending : Ending) (order : Order) (kind : Kind) (s : List ℕ) (fault : Fault) : Type 0 where
  pub good : List Entry
  pub bad : List ℕ
  pub are_good : Chain (OptionText order kind) good s bad
  pub goes_on : IsOver ending good → bad ≢ []
  pub fault_is : OptionFault order kind bad fault

-- ListSays ending order kind s verdict: `s` read as a list of options gives this verdict, the options or a fault.
abbrev pub ListSays : Ending → Order → Kind → List ℕ → Verdict (List Entry) → Type 0
ListSays ending order kind s = Says (λ options rest. OptionList ending order kind options s rest) (λ n. ⊥) (ListFault ending order kind s)

-- Reading a list of options may allocate only if the bytes begin with an option.
abbrev pub OptionsMayGrow : Order → Kind → List ℕ → Type 0
OptionsMayGrow order kind = BeginsWith (OptionText order kind)
