-- Options read leniently: each with its value, or with its bytes if the value breaks its rule ('Options').
use Rattle.std.specs.Prelude.{◌≡◌, ◌≢◌, ℕ, List, [], ◌∷◌, ◌++◌, length, map, Option, Some, None, Result, Ok, Err}
use Rattle.pcap_core.specs.Answer.{Order, Verdict, Says}
use Rattle.pcap_core.specs.Faults.{Fault}
use Rattle.pcap_core.specs.Padded.{Padded, Chain}
use Rattle.pcap_options.specs.Values.{Entry, Value, Unknown, Kind, shape_at, value_of}
use Rattle.pcap_options.specs.Options.{may_end_with_body, CodeLengthText}
use Rattle.pcap_raw_options.specs.UpTo.{StopsAt, no_kind}
use Rattle.pcap_tolerant_blocks.specs.Flaws.{Said, Flawed, said_of, KeepsSome}
use Rattle.pcap_tolerant_blocks.specs.declared.flaws.Flaw.{Flaw}
use Rattle.pcap_tolerant_blocks.specs.declared.list.OptionAsIs.{OptionAsIs}
use Rattle.pcap_tolerant_blocks.specs.declared.list.ListAsIs.{ListAsIs}

-- An option read leniently, with its flaw if it has one.
pub record Judged : Type 0 where
  pub entry : Entry
  pub flaws : List Said

-- The option with this code and these bytes, by the result of reading them: its value, or its bytes and the fault.
abbrev pub judged : ℕ → List ℕ → Result Value Fault → Judged
judged code v (Ok value) = record { entry = record { code = code; value = value }; flaws = [] }
judged code v (Err fault) = record { entry = record { code = code; value = Unknown (length v) v }; flaws = record { code = Some code; fault = fault } ∷ [] }

-- `s` is the text of an option, whatever its value is, followed by `rest`.
pub record JudgedText (order : Order) (kind : Kind) (option : Judged) (s rest : List ℕ) : Type 0 where
  pub code : ℕ
  pub v : List ℕ
  pub after_head : List ℕ
  pub head : CodeLengthText order code (length v) s after_head
  pub no_mark : code ≢ 0
  pub padded : Padded v after_head rest
  pub is : option ≡ judged code v (value_of order (shape_at kind code) v)

-- The option without its flaw.
abbrev pub entry_in : Judged → Entry
entry_in option = option.entry

-- The flaw of a list that ends before its mark and before its bytes do.
abbrev pub cut_by : Option Fault → List Said
cut_by None = []
cut_by (Some fault) = record { code = None; fault = fault } ∷ []

-- The flaws of options in their order, and then the flaw of the list.
abbrev pub flaws_in : List Judged → List Said → List Said
flaws_in [] last = last
flaws_in (option ∷ options) last = option.flaws ++ flaws_in options last

-- `s` is these options read leniently, with these flaws, followed by `rest`: up to the mark, to the end, or to where no next option is
-- found.
pub record OptionsAsIs (order : Order) (kind : Kind) (options : List Entry) (flaws : List Said) (s rest : List ℕ) : Type 0 where
  pub each : List Judged
  pub cut : Option Fault
  pub stop : List ℕ
  pub are : Chain (JudgedText order kind) each s stop
  pub stops : StopsAt may_end_with_body order no_kind options cut stop rest
  pub options_are : options ≡ map entry_in each
  pub flaws_are : flaws ≡ flaws_in each (cut_by cut)

-- The only answer of lenient reading where the bytes should be options is the options, whatever their flaws.
abbrev pub OptionsAsIsSay : Order → Kind → List ℕ → Verdict (Flawed (List Entry)) → Type 0
OptionsAsIsSay order kind s = Says (λ x rest. OptionsAsIs order kind x.value x.flaws s rest) (λ n. ⊥) (λ fault. ⊥)

-- `s` has an option or a flaw, so a list grows.
abbrev pub OptionsGrow : Order → Kind → List ℕ → Type 0
OptionsGrow order kind = KeepsSome (OptionsAsIs order kind) (λ options. options ≡ [])

-- ---- the state of the code

-- A possible flaw as a list.
abbrev pub flaws_or_none : Option Flaw → List Said
flaws_or_none None = []
flaws_or_none (Some flaw) = said_of flaw ∷ []

-- An option of the code, and its flaw.
abbrev pub judged_of : {O : Type 0} → (O → Entry) → OptionAsIs O → Judged
judged_of view x = record { entry = view x.option; flaws = flaws_or_none x.flaw }

-- The options at the front of `s`, read leniently, as the code holds them.
abbrev pub ListsAsIs : {O : Type 0} → Order → Kind → (O → Entry) → List ℕ → ListAsIs O → Type 0
ListsAsIs order kind view s x = OptionsAsIs order kind (map view x.options.items) (map said_of x.flaws.items) s x.left.now
