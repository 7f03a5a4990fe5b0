-- Names read leniently: each record with its value, or with its bytes if the value breaks its rule ('Name Resolution Block').
use Rattle.std.specs.Prelude.{◌≡◌, ◌≢◌, ◌<◌, ℕ, List, [], ◌∷◌, ◌++◌, length, map, Option, None, Bool, true, false}
use Rattle.std.specs.List.{flat_map}
use Rattle.pcap_core.specs.Answer.{Order, Verdict, whole, faulty, Says}
use Rattle.pcap_core.specs.Faults.{Fault}
use Rattle.pcap_core.specs.Padded.{up_to_4, Padded, Chain}
use Rattle.pcap_core.specs.Bytes.{cow_bytes, IsBorrowed}
use Rattle.pcap_options.specs.Values.{Entry}
use Rattle.pcap_options.specs.Options.{CodeLengthText}
use Rattle.pcap_options.specs.Record.{NameRecord, Other, form_of, RecordIsBorrowed, RecordValueSays, RecordFault, name_record_of}
use Rattle.pcap_options.specs.NameOption.{name_resolution}
use Rattle.pcap_blocks.specs.NameResolution.{Resolution}
use Rattle.pcap_options.specs.declared.record.UnknownRecord.{UnknownRecord}
use Rattle.pcap_tolerant_blocks.specs.Flaws.{Said, Flawed, said_of, KeepsSome}
use Rattle.pcap_tolerant_blocks.specs.OptionsAsIs.{OptionsAsIs, flaws_or_none}
use Rattle.pcap_tolerant_blocks.specs.declared.flaws.Flaw.{Flaw}
use Rattle.pcap_tolerant_blocks.specs.declared.names.NamesAsIs.{NamesAsIs}
use Rattle.pcap_tolerant_blocks.specs.declared.names.RecordsAsIs.{RecordsAsIs}
use Rattle.pcap_tolerant_blocks.specs.declared.records.RecordAsIs.{RecordAsIs}
use Rattle.pcap_tolerant_blocks.specs.declared.records.RecordAsIs.TheVariants as found

-- The flaw of a body or of a list by this fault, alone.
abbrev pub only : Fault → List Said
only fault = record { code = None; fault = fault } ∷ []

-- The record with this type and these bytes, read leniently: the value of strict reading, or the bytes with the strict fault.
pub data IsJudged (type : ℕ) (v : List ℕ) : Flawed NameRecord → Type 0 where
  sound : (r : NameRecord) → RecordValueSays (form_of type) v (whole r []) → IsJudged type v (record { value = r; flaws = [] })
  broken : (fault : Fault) → RecordValueSays (form_of type) v (faulty fault) → IsJudged type v (record { value = Other type (length v) v; flaws = only fault })

-- `s` is a record of this type and these bytes with their padding, whatever they mean, followed by `rest`.
pub record Delimited (order : Order) (type : ℕ) (v s rest : List ℕ) : Type 0 where
  pub after_head : List ℕ
  pub head : CodeLengthText order type (length v) s after_head
  pub padded : Padded v after_head rest

-- There is no record: `s` has no room for its type and length, or for the bytes that the length states and their padding.
pub data NoExtent (order : Order) (s : List ℕ) : Type 0 where
  no_head : length s < 4 → NoExtent order s
  no_bytes : (type len : ℕ) (after : List ℕ) → CodeLengthText order type len s after → length after < up_to_4 len → NoExtent order s

-- `s` is a record of this type read leniently, followed by `rest`.
pub record TypedText (order : Order) (type : ℕ) (r : Flawed NameRecord) (s rest : List ℕ) : Type 0 where
  pub v : List ℕ
  pub text : Delimited order type v s rest
  pub is : IsJudged type v r

-- `s` is a record that is kept: a record of any type except the end's.
pub record KeptAsIs (order : Order) (r : Flawed NameRecord) (s rest : List ℕ) : Type 0 where
  pub type : ℕ
  pub no_end : type ≢ 0
  pub typed : TypedText order type r s rest

-- Behind the records there are their end, whatever it states, and options with these flaws, followed by `rest`; or there is no next
-- record, which strict reading refuses, and all is left.
pub data BehindRecords (order : Order) (s rest : List ℕ) : List Entry → List Said → Type 0 where
  ended : (end : Flawed NameRecord) (after : List ℕ) (options : List Entry) (flaws : List Said)
      → TypedText order 0 end s after → OptionsAsIs order name_resolution options flaws after rest
      → BehindRecords order s rest options (end.flaws ++ flaws)
  cut : (fault : Fault) → NoExtent order s → RecordFault order s fault → rest ≡ s → BehindRecords order s rest [] (only fault)

-- The record of a flawed record.
abbrev pub record_in : Flawed NameRecord → NameRecord
record_in r = r.value

-- The flaws of a flawed record, at most one.
abbrev pub flaws_of : Flawed NameRecord → List Said
flaws_of r = r.flaws

-- `s` is names read leniently, with these flaws, followed by `rest`.
pub record NamesText (order : Order) (names : Resolution) (flaws : List Said) (s rest : List ℕ) : Type 0 where
  pub each : List (Flawed NameRecord)
  pub stop : List ℕ
  pub last : List Said
  pub are : Chain (KeptAsIs order) each s stop
  pub behind : BehindRecords order stop rest names.options last
  pub records_are : names.records ≡ map record_in each
  pub flaws_are : flaws ≡ flat_map flaws_of each ++ last

-- The only answer of lenient reading where the bytes should be names is the names, whatever their flaws.
abbrev pub NamesAsIsSay : Order → List ℕ → Verdict (Flawed Resolution) → Type 0
NamesAsIsSay order s = Says (λ x rest. NamesText order x.value x.flaws s rest) (λ n. ⊥) (λ fault. ⊥)

-- `s` is not an end of records without a flaw, so a list grows.
abbrev pub RecordsGrow : Order → List ℕ → Type 0
RecordsGrow order s = (end : Flawed NameRecord) (rest : List ℕ) → TypedText order 0 end s rest → end.flaws ≡ [] → ⊥

-- `s` is not names without flaws, records and options, so a list grows.
abbrev pub NamesGrow : Order → List ℕ → Type 0
NamesGrow order = KeepsSome (NamesText order) (λ x. (x.records ≡ []) × (x.options ≡ []))

-- ---- the state of the code

-- The flaws of names that the code returned.
abbrev pub flaws_said : NamesAsIs → List Said
flaws_said x = map said_of x.flaws.items

-- A record of the code with its flaw.
abbrev pub judged_record : NameRecord → Option Flaw → Flawed NameRecord
judged_record r flaw = record { value = r; flaws = flaws_or_none flaw }

-- A record of the code has an unknown type and the borrowed bytes of the record at the front of `s`, and `rest` follows.
pub record RawText (order : Order) (r : UnknownRecord) (s rest : List ℕ) : Type 0 where
  pub text : Delimited order r.type_ (cow_bytes r.value) s rest
  pub length_is : r.length ≡ length (cow_bytes r.value)
  pub borrowed : IsBorrowed r.value

-- The code found at the front of `s` a record, the end of the records, or that there is neither.
abbrev pub IsFound : Order → List ℕ → RecordAsIs → Type 0
IsFound order s (found.Kept r flaw after) = KeptAsIs order (judged_record (name_record_of r) flaw) s after.now
IsFound order s (found.End flaw after) = (end : NameRecord) × TypedText order 0 (judged_record end flaw) s after.now
IsFound order s (found.Cut flaw) = (fault : Fault) × NoExtent order s × RecordFault order s fault × (said_of flaw ≡ record { code = None; fault = fault })

-- The bytes of the record that the code found are borrowed.
abbrev pub FoundIsBorrowed : RecordAsIs → Type 0
FoundIsBorrowed (found.Kept r flaw after) = RecordIsBorrowed r
FoundIsBorrowed _ = Unit {0}

-- `s` is records read leniently, with these flaws, followed by `rest`, which begins after their end if there is one, or else where no
-- next record is found.
pub data RecordsText (order : Order) (s : List ℕ) (records : List NameRecord) (flaws : List Said) (rest : List ℕ) : Bool → Type 0 where
  with_end : (each : List (Flawed NameRecord)) (end : Flawed NameRecord) (stop : List ℕ)
      → Chain (KeptAsIs order) each s stop → TypedText order 0 end stop rest → records ≡ map record_in each
      → flaws ≡ flat_map flaws_of each ++ end.flaws → RecordsText order s records flaws rest true
  without_end : (each : List (Flawed NameRecord)) (fault : Fault)
      → Chain (KeptAsIs order) each s rest → NoExtent order rest → RecordFault order rest fault → records ≡ map record_in each
      → flaws ≡ flat_map flaws_of each ++ only fault → RecordsText order s records flaws rest false

-- The records at the front of `s`, read leniently, as the code holds them.
abbrev pub RecordsRead : Order → List ℕ → RecordsAsIs → Type 0
RecordsRead order s x = RecordsText order s (map name_record_of x.records.items) (map said_of x.flaws.items) x.left.now x.has_end
