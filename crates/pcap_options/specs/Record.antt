-- The records of a name resolution body ('Name Resolution Block').
use Rattle.std.specs.Prelude.{◌≡◌, ◌≢◌, ℕ, ◌+◌, ◌<◌, ◌≤◌, List, [], ◌++◌, length, ◌==◌, if◌then◌else◌, map, All}
use Rattle.std.specs.declared.borrow.CowStr.{CowStr}
use Rattle.std.specs.Cow.{cow_str_bytes, IsBorrowedStr, IsOwnedStr}
use Rattle.pcap_core.specs.Answer.{Order, Verdict, whole, faulty, Says, Made}
use Rattle.pcap_core.specs.declared.common.CowBytes.{CowBytes}
use Rattle.pcap_core.specs.Bytes.{cow_bytes, IsBorrowed, IsOwned}
use Rattle.pcap_core.specs.Faults.{Fault, Invalid, Io}
use Rattle.pcap_core.specs.declared.rules.Rule.{Rule}
use Rattle.pcap_core.specs.declared.rules.Rule.TheVariants.{RecordCut, EndNotEmpty, Ipv4RecordTooShort, Ipv6RecordTooShort, RecordUnpadded}
use Rattle.pcap_options.specs.declared.record.Ipv4Record.{Ipv4Record}
use Rattle.pcap_options.specs.declared.record.Ipv6Record.{Ipv6Record}
use Rattle.pcap_options.specs.declared.record.UnknownRecord.{UnknownRecord}
use Rattle.pcap_options.specs.declared.record.Record.{Record}
use Rattle.pcap_options.specs.declared.record.Record.TheVariants as record_of
use Rattle.pcap_core.specs.Padded.{Padded, up_to_4, Behind}
use Rattle.pcap_options.specs.Options.{CodeLengthText}
use Rattle.pcap_options.specs.Names.{NamesText, NamesFault, NamesMayGrow}
use Rattle.pcap_options.specs.Growth.{HoldsAfter}

-- An address is its bytes and its names.
pub record Address : Type 0 where
  pub bytes : List ℕ
  pub names : List (List ℕ)

-- `s` is an address of this width and then names to the end, and has at least 2 bytes more than the address.
pub record AddressText (width : ℕ) (address : Address) (s rest : List ℕ) : Type 0 where
  pub after : List ℕ
  pub long : width + 2 ≤ length s
  pub parts : s ≡ address.bytes ++ after
  pub wide : length address.bytes ≡ width
  pub names_are : NamesText address.names after rest

-- The first fault of `s` as an address of this width and its names: too few bytes, or the fault of the names.
pub data AddressFault (width : ℕ) (too_short : Rule) (s : List ℕ) : Fault → Type 0 where
  short : length s < width + 2 → AddressFault width too_short s (Invalid too_short)
  in_names : (fault : Fault) (after : List ℕ) → width + 2 ≤ length s → Behind width s after → NamesFault after fault → AddressFault width too_short s fault

-- AddressSays width too_short s verdict: `s` read as an address of this width and its names gives this verdict, an address or a fault.
abbrev pub AddressSays : ℕ → Rule → List ℕ → Verdict Address → Type 0
AddressSays width too_short s = Says (λ address rest. AddressText width address s rest) (λ n. ⊥) (AddressFault width too_short s)

-- Reading an address may allocate only if at least 2 bytes follow the address and they begin with a name.
pub record AddressMayGrow (width : ℕ) (s : List ℕ) : Type 0 where
  pub long : width + 2 ≤ length s
  pub grows : HoldsAfter width NamesMayGrow s

-- A name record, wherever its bytes are in memory.
pub data NameRecord : Type 0 where
  End : NameRecord
  Ipv4 : Address → NameRecord
  Ipv6 : Address → NameRecord
  Other : ℕ → ℕ → List ℕ → NameRecord

-- A form is what the type of a record requires of its value: no value, an address and its names, or any bytes.
pub data Form : Type 0 where
  no_value : Form
  address : ℕ → Rule → (Address → NameRecord) → Form
  any_value : ℕ → Form

-- The form of a record's value, by the record's type.
abbrev pub form_of : ℕ → Form
form_of type =
    if type == 0 then no_value
    else if type == 1 then address 4 Ipv4RecordTooShort Ipv4
    else if type == 2 then address 16 Ipv6RecordTooShort Ipv6
    else any_value type

-- RecordValueSays form v verdict: `v` read as the whole value of a record of this form gives this verdict, a record or a fault.
abbrev pub RecordValueSays : Form → List ℕ → Verdict NameRecord → Type 0
RecordValueSays no_value v = Says (λ r rest. (r ≡ End) × (v ≡ []) × (rest ≡ [])) (λ n. ⊥) (λ fault. (fault ≡ Invalid EndNotEmpty) × (v ≢ []))
RecordValueSays (address width too_short make) v = Made make (AddressSays width too_short v)
RecordValueSays (any_value type) v = Says (λ r rest. (r ≡ Other type (length v) v) × (rest ≡ [])) (λ n. ⊥) (λ fault. ⊥)

-- `s` is a record and then `rest`: the record's type, the length of its value, and the value with its padding.
pub record RecordText (order : Order) (r : NameRecord) (s rest : List ℕ) : Type 0 where
  pub type : ℕ
  pub v : List ℕ
  pub after : List ℕ
  pub head : CodeLengthText order type (length v) s after
  pub value_is : RecordValueSays (form_of type) v (whole r [])
  pub padded : Padded v after rest

-- The first fault of `s` as a record: too few bytes, a cut value, a malformed value, or last a cut padding.
pub data RecordFault (order : Order) (s : List ℕ) : Fault → Type 0 where
  short : length s < 4 → RecordFault order s Io
  cut : (type len : ℕ) (after : List ℕ) → CodeLengthText order type len s after → length after < len → RecordFault order s (Invalid RecordCut)
  wrong : (fault : Fault) (type : ℕ) (v after more : List ℕ) → CodeLengthText order type (length v) s after
      → after ≡ v ++ more → RecordValueSays (form_of type) v (faulty fault)
      → RecordFault order s fault
  unpadded : (r : NameRecord) (type : ℕ) (v after more : List ℕ)
      → CodeLengthText order type (length v) s after → after ≡ v ++ more → RecordValueSays (form_of type) v (whole r [])
      → length after < up_to_4 (length v) → RecordFault order s (Invalid RecordUnpadded)

-- RecordSays order s verdict: `s` read as a record gives this verdict, the record or a fault.
abbrev pub RecordSays : Order → List ℕ → Verdict NameRecord → Type 0
RecordSays order s = Says (λ r rest. RecordText order r s rest) (λ n. ⊥) (RecordFault order s)

-- Reading a value of this form may allocate only if it is an address with a name.
abbrev pub RecordValueMayGrow : Form → List ℕ → Type 0
RecordValueMayGrow no_value v = ⊥
RecordValueMayGrow (address width too_short make) v = AddressMayGrow width v
RecordValueMayGrow (any_value type) v = ⊥

-- Reading a record may allocate only if its value is an address with a name, whatever follows that name.
pub record RecordMayGrow (order : Order) (s : List ℕ) : Type 0 where
  pub type : ℕ
  pub v : List ℕ
  pub after : List ℕ
  pub more : List ℕ
  pub head : CodeLengthText order type (length v) s after
  pub parts : after ≡ v ++ more
  pub grows : RecordValueMayGrow (form_of type) v

-- The address of the bytes and the names that a record in the code holds.
abbrev pub address_of : {Z : Type 0} → CowBytes → List (CowStr Z) → Address
address_of ip_addr names = record { bytes = cow_bytes ip_addr; names = map cow_str_bytes names }

-- The address of an IPv4 record.
abbrev pub ipv4_of : Ipv4Record → Address
ipv4_of r = address_of r.ip_addr r.names.items

-- The address of an IPv6 record.
abbrev pub ipv6_of : Ipv6Record → Address
ipv6_of r = address_of r.ip_addr r.names.items

-- The name record of a record of unknown type.
abbrev pub other_of : UnknownRecord → NameRecord
other_of r = Other r.type_ r.length (cow_bytes r.value)

-- The name record of a record of any type.
abbrev pub name_record_of : Record → NameRecord
name_record_of record_of.End = End
name_record_of (record_of.Ipv4 r) = Ipv4 (ipv4_of r)
name_record_of (record_of.Ipv6 r) = Ipv6 (ipv6_of r)
name_record_of (record_of.Unknown r) = other_of r

-- The bytes of an address and all its names are borrowed.
pub record AddressIsBorrowed {Z : Type 0} (ip_addr : CowBytes) (list : List (CowStr Z)) : Type 0 where
  pub bytes : IsBorrowed ip_addr
  pub names : All IsBorrowedStr list

-- The bytes of an address and all its names are owned.
pub record AddressIsOwned {Z : Type 0} (ip_addr : CowBytes) (list : List (CowStr Z)) : Type 0 where
  pub bytes : IsOwned ip_addr
  pub names : All IsOwnedStr list

-- Making an address and its names owned takes no memory: the address is owned, and there are no names.
pub record AddressNeedsNoMemory {Z : Type 0} (ip_addr : CowBytes) (list : List (CowStr Z)) : Type 0 where
  pub bytes : IsOwned ip_addr
  pub names : list ≡ []

-- The address and the names of an IPv4 record are borrowed.
abbrev pub Ipv4IsBorrowed : Ipv4Record → Type 0
Ipv4IsBorrowed r = AddressIsBorrowed r.ip_addr r.names.items

-- The address and the names of an IPv4 record are owned.
abbrev pub Ipv4IsOwned : Ipv4Record → Type 0
Ipv4IsOwned r = AddressIsOwned r.ip_addr r.names.items

-- The address and the names of an IPv6 record are borrowed.
abbrev pub Ipv6IsBorrowed : Ipv6Record → Type 0
Ipv6IsBorrowed r = AddressIsBorrowed r.ip_addr r.names.items

-- The address and the names of an IPv6 record are owned.
abbrev pub Ipv6IsOwned : Ipv6Record → Type 0
Ipv6IsOwned r = AddressIsOwned r.ip_addr r.names.items

-- All strings and bytes of a record of any type are borrowed.
abbrev pub RecordIsBorrowed : Record → Type 0
RecordIsBorrowed record_of.End = Unit {0}
RecordIsBorrowed (record_of.Ipv4 r) = Ipv4IsBorrowed r
RecordIsBorrowed (record_of.Ipv6 r) = Ipv6IsBorrowed r
RecordIsBorrowed (record_of.Unknown r) = IsBorrowed r.value

-- All strings and bytes of a record of any type are owned.
abbrev pub RecordIsOwned : Record → Type 0
RecordIsOwned record_of.End = Unit {0}
RecordIsOwned (record_of.Ipv4 r) = Ipv4IsOwned r
RecordIsOwned (record_of.Ipv6 r) = Ipv6IsOwned r
RecordIsOwned (record_of.Unknown r) = IsOwned r.value

-- The bytes of a record of unknown type are owned.
abbrev pub UnknownRecordIsOwned : UnknownRecord → Type 0
UnknownRecordIsOwned r = IsOwned r.value

-- Making an IPv4 record owned takes no memory.
abbrev pub Ipv4NeedsNoMemory : Ipv4Record → Type 0
Ipv4NeedsNoMemory r = AddressNeedsNoMemory r.ip_addr r.names.items

-- Making an IPv6 record owned takes no memory.
abbrev pub Ipv6NeedsNoMemory : Ipv6Record → Type 0
Ipv6NeedsNoMemory r = AddressNeedsNoMemory r.ip_addr r.names.items

-- Making a record of any type owned takes no memory.
abbrev pub RecordNeedsNoMemory : Record → Type 0
RecordNeedsNoMemory record_of.End = Unit {0}
RecordNeedsNoMemory (record_of.Ipv4 r) = Ipv4NeedsNoMemory r
RecordNeedsNoMemory (record_of.Ipv6 r) = Ipv6NeedsNoMemory r
RecordNeedsNoMemory (record_of.Unknown r) = UnknownRecordIsOwned r
