-- Hardware addresses in records of unknown types ('Name Resolution Block').
use Rattle.std.specs.Prelude.{◌≡◌, ℕ, List, ◌++◌, length}
use Rattle.pcap_core.specs.Bytes.{cow_bytes}
use Rattle.pcap_options.specs.declared.record.UnknownRecord.{UnknownRecord}

-- The value of a record of this type is an address of this width, and then its names.
pub record AddressOf (type width : ℕ) (r : UnknownRecord) (address names : List ℕ) : Type 0 where
  pub record_is : r.type_ ≡ type
  pub parts : cow_bytes r.value ≡ address ++ names
  pub wide : length address ≡ width
