-- What the calls return that read records and names of a name resolution block ('Name Resolution Block').
use Rattle.std.specs.Prelude.{◌≡◌, ◌≢◌, ◌⊎◌, ℕ, ℤ, pos, List, [], Option, Some, None, Result, Ok, Err}
use Rattle.std.specs.Borrow.{Bor}
use Rattle.pcap_core.specs.declared.common.Endianness.{Endianness}
use Rattle.pcap_core.specs.declared.errors.PcapError.{PcapError}
use Rattle.pcap_core.specs.declared.rules.Rule.{Rule}
use Rattle.pcap_core.specs.Answer.{Order, number_in, whole, faulty}
use Rattle.pcap_core.specs.Faults.{Shows}
use Rattle.pcap_options.specs.Names.{NameText, NameSays, NamesText, NamesSay}
use Rattle.pcap_options.specs.Record.{Address, AddressSays, NameRecord, End, Ipv4, Ipv6, Other, Form, RecordValueSays, RecordText, RecordSays}
use Rattle.pcapfile_values.specs.declared.shown.PcapfileBytes.{PcapfileBytes}
use Rattle.pcapfile_values.specs.Refusals.{TellsRefusal}
use Rattle.pcapfile_c.specs.declared.records.PcapfileRecord.{PcapfileRecord}
use Rattle.pcapfile_c.specs.Options.{BeginsTells}
use Rattle.pcapfile_c.specs.Options as options
use Rattle.pcapfile_c.specs.Readers.{Reader}

-- The struct shows an address under this type: its bytes, and the bytes that are its names.
pub record ShowsAddress (type : ℕ) (address : Address) (shown : PcapfileRecord) : Type 0 where
  pub type_is : shown.type_ ≡ type
  pub bytes_are : shown.address.now ≡ address.bytes
  pub names_are : NamesText address.names shown.names.now []

-- The struct shows a record of another type: its value.
pub record ShowsOther (type : ℕ) (value : List ℕ) (shown : PcapfileRecord) : Type 0 where
  pub type_is : shown.type_ ≡ type
  pub value_is : shown.address.now ≡ value
  pub no_names : shown.names.now ≡ []

-- The struct shows a record, and there is no struct for the end.
abbrev pub ShowsRecord : NameRecord → Option PcapfileRecord → Type 0
ShowsRecord End None = Unit {0}
ShowsRecord (Ipv4 address) (Some shown) = ShowsAddress 1 address shown
ShowsRecord (Ipv6 address) (Some shown) = ShowsAddress 2 address shown
ShowsRecord (Other type len value) (Some shown) = ShowsOther type value shown
ShowsRecord _ _ = ⊥

-- The result of reading all bytes as names: they are names, or there is a fault.
abbrev pub NamesTell : List ℕ → Result (Unit {0}) PcapError → Type 0
NamesTell s (Ok nothing) = (names : List (List ℕ)) × NamesText names s []
NamesTell s (Err e) = Shows (λ fault. NamesSay s (faulty fault)) e

-- The result of reading all bytes as an address of this type and width, with its names.
abbrev pub AddressTells : ℕ → ℕ → Rule → List ℕ → Result PcapfileRecord PcapError → Type 0
AddressTells type width too_short s (Ok shown) = (address : Address) × ShowsAddress type address shown × AddressSays width too_short s (whole address [])
AddressTells type width too_short s (Err e) = Shows (λ fault. AddressSays width too_short s (faulty fault)) e

-- The result of reading a value as a record of this form.
abbrev pub ValueTells : Form → List ℕ → Result (Option PcapfileRecord) PcapError → Type 0
ValueTells form v (Ok shown) = (r : NameRecord) × ShowsRecord r shown × RecordValueSays form v (whole r [])
ValueTells form v (Err e) = Shows (λ fault. RecordValueSays form v (faulty fault)) e

-- The result of reading the record at the front of bytes, and what follows it.
abbrev pub RecordTells : Order → List ℕ → Result (Bor (List ℕ) × Option PcapfileRecord) PcapError → Type 0
RecordTells order s (Ok (rest, shown)) = (r : NameRecord) × ShowsRecord r shown × RecordText order r s rest.now
RecordTells order s (Err e) = Shows (λ fault. RecordSays order s (faulty fault)) e

-- The result of a search for what follows the records.
abbrev pub RecordsTell : Order → List ℕ → Result (Bor (List ℕ)) PcapError → Type 0
RecordsTell order s = BeginsTells (options.NamesSay order s)

-- Status 0: the left bytes begin with a record, the struct shows it, and the rest is left. Status 8: they begin with the end of the
-- records. The error is unchanged under both. Another status: the record is refused. The left bytes and the struct are unchanged unless
-- the status is 0.
abbrev pub TakesRecord : Endianness → Reader PcapfileBytes PcapfileRecord → Reader PcapfileBytes PcapfileRecord → ℤ → Type 0
TakesRecord e old new status =
    ((status ≡ pos 0) × (new.error ≡ old.error) × (r : NameRecord) × ShowsRecord r (Some new.value) × RecordText (number_in e) r old.left.bytes.now new.left.bytes.now)
    ⊎ (((status ≡ pos 8) × (new.error ≡ old.error) × (new.left ≡ old.left) × (new.value ≡ old.value) × (rest : List ℕ) × RecordText (number_in e) End old.left.bytes.now rest)
    ⊎ ((new.left ≡ old.left) × (new.value ≡ old.value) × TellsRefusal (RecordSays (number_in e) old.left.bytes.now) new.error status))

-- Status 0: the left bytes begin with a name, which is shown, and what follows its zero byte is left. Status 8: nothing is left. The
-- error is unchanged under both. Another status: the name is refused. The left bytes and what is shown are unchanged unless the status is
-- 0.
abbrev pub TakesName : Reader PcapfileBytes PcapfileBytes → Reader PcapfileBytes PcapfileBytes → ℤ → Type 0
TakesName old new status =
    ((status ≡ pos 0) × (new.error ≡ old.error) × NameText new.value.bytes.now old.left.bytes.now new.left.bytes.now)
    ⊎ (((status ≡ pos 8) × (new.error ≡ old.error) × (new.left ≡ old.left) × (new.value ≡ old.value) × (old.left.bytes.now ≡ []))
    ⊎ ((new.left ≡ old.left) × (new.value ≡ old.value) × (old.left.bytes.now ≢ []) × TellsRefusal (NameSays old.left.bytes.now) new.error status))
