-- The list of records of a name resolution block ('Name Resolution Block').
use Rattle.std.specs.Prelude.{◌≢◌, ℕ, List}
use Rattle.pcap_core.specs.Answer.{Order, Verdict, Says}
use Rattle.pcap_core.specs.Faults.{Fault}
use Rattle.pcap_core.specs.Padded.{Chain}
use Rattle.pcap_options.specs.Growth.{BeginsWith}
use Rattle.pcap_options.specs.Record.{NameRecord, End, RecordText, RecordFault, RecordMayGrow}

-- A list keeps every record except the end record.
pub record KeptText (order : Order) (r : NameRecord) (s rest : List ℕ) : Type 0 where
  pub record_is : RecordText order r s rest
  pub no_end : r ≢ End

-- `s` is these records, the end record, and then `rest`.
pub record RecordsText (order : Order) (records : List NameRecord) (s rest : List ℕ) : Type 0 where
  pub end : List ℕ
  pub are : Chain (KeptText order) records s end
  pub ends : RecordText order End end rest

-- The fault of a list of records is the fault that follows some well-formed records, none of which is the end record.
pub record RecordsFault (order : Order) (s : List ℕ) (fault : Fault) : Type 0 where
  pub good : List NameRecord
  pub bad : List ℕ
  pub are_good : Chain (KeptText order) good s bad
  pub fault_is : RecordFault order bad fault

-- RecordsSay order s verdict: `s` read as records up to the end record gives this verdict, the records or a fault.
abbrev pub RecordsSay : Order → List ℕ → Verdict (List NameRecord) → Type 0
RecordsSay order s = Says (λ records rest. RecordsText order records s rest) (λ n. ⊥) (RecordsFault order s)

-- Reading records may allocate only if the bytes begin with a record that isn't the end record, or with a record that has a name.
pub data RecordsMayGrow (order : Order) (s : List ℕ) : Type 0 where
  kept : BeginsWith (KeptText order) s → RecordsMayGrow order s
  named : RecordMayGrow order s → RecordsMayGrow order s
