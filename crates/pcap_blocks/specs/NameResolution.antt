-- The body of a name resolution block ('Name Resolution Block').
use Rattle.std.specs.Prelude.{◌≡◌, ℕ, List, [], map, All}
use Rattle.pcap_core.specs.Answer.{Order, Verdict, Says}
use Rattle.pcap_core.specs.Faults.{Fault}
use Rattle.pcap_blocks.specs.declared.name_resolution.NameResolutionBlock.{NameResolutionBlock}
use Rattle.pcap_options.specs.Values.{Entry}
use Rattle.pcap_options.specs.Options.{may_end_with_body, OptionList, ListFault, OptionsMayGrow}
use Rattle.pcap_options.specs.Record.{NameRecord, name_record_of, RecordIsBorrowed, RecordIsOwned}
use Rattle.pcap_options.specs.NameOption.{name_resolution, name_entry, NameOptionIsBorrowed, NameOptionIsOwned}
use Rattle.pcap_options.specs.Records.{RecordsText, RecordsFault, RecordsMayGrow}

-- A name resolution block is records and options, wherever their bytes are in memory.
pub record Resolution : Type 0 where
  pub records : List NameRecord
  pub options : List Entry

-- `s` is the body of a name resolution block and then `rest`: the records up to the end record, and the options.
pub record ResolutionText (order : Order) (b : Resolution) (s rest : List ℕ) : Type 0 where
  pub after : List ℕ
  pub records_are : RecordsText order b.records s after
  pub options_are : OptionList may_end_with_body order name_resolution b.options after rest

-- The first fault of `s` as the body of a name resolution block: the fault of its records, or else of its options.
pub data ResolutionFault (order : Order) (s : List ℕ) (fault : Fault) : Type 0 where
  in_records : RecordsFault order s fault → ResolutionFault order s fault
  in_options : (records : List NameRecord) (after : List ℕ) → RecordsText order records s after
      → ListFault may_end_with_body order name_resolution after fault → ResolutionFault order s fault

-- ResolutionSays order s verdict: `s` read as the body of a name resolution block gives this verdict, the block or a fault.
abbrev pub ResolutionSays : Order → List ℕ → Verdict Resolution → Type 0
ResolutionSays order s = Says (λ b rest. ResolutionText order b s rest) (λ n. ⊥) (ResolutionFault order s)

-- Reading a name resolution block may allocate only if it has an option, a record with a name, or a record that isn't the end record.
pub data ResolutionMayGrow (order : Order) (s : List ℕ) : Type 0 where
  with_record : RecordsMayGrow order s → ResolutionMayGrow order s
  with_option : (records : List NameRecord) (after : List ℕ) → RecordsText order records s after
      → OptionsMayGrow order name_resolution after → ResolutionMayGrow order s

-- The name resolution block of a block in the code.
abbrev pub names_of : NameResolutionBlock → Resolution
names_of block = record { records = map name_record_of block.records.items; options = map name_entry block.options.items }

-- All strings and bytes of the records and the options are borrowed.
pub record ResolutionIsBorrowed (block : NameResolutionBlock) : Type 0 where
  pub records : All RecordIsBorrowed block.records.items
  pub options : All NameOptionIsBorrowed block.options.items

-- All strings and bytes of the records and the options are owned.
pub record ResolutionIsOwned (block : NameResolutionBlock) : Type 0 where
  pub records : All RecordIsOwned block.records.items
  pub options : All NameOptionIsOwned block.options.items

-- Making a name resolution block owned takes no memory: it has neither records nor options.
pub record ResolutionNeedsNoMemory (block : NameResolutionBlock) : Type 0 where
  pub records : block.records.items ≡ []
  pub options : block.options.items ≡ []
