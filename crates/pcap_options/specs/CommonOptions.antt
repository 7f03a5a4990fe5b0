-- Custom and unknown options, which every kind of block can have, and the contents of an option in the code.
use Rattle.std.specs.Prelude.{ℕ}
use Rattle.std.specs.declared.borrow.CowStr.{CowStr}
use Rattle.std.specs.Cow.{cow_str_bytes, IsBorrowedStr, IsOwnedStr}
use Rattle.pcap_core.specs.declared.common.CowBytes.{CowBytes}
use Rattle.pcap_core.specs.Bytes.{cow_bytes, IsBorrowed, IsOwned}
use Rattle.pcap_options.specs.Values.{Entry, Str, Bytes, Integer, CustomStr, CustomBytes, Unknown}
use Rattle.pcap_options.specs.declared.options.UnknownOption.{UnknownOption}
use Rattle.pcap_options.specs.declared.options.CustomBinaryOption.{CustomBinaryOption}
use Rattle.pcap_options.specs.declared.options.CustomUtf8Option.{CustomUtf8Option}

-- The code and the value of an unknown option.
abbrev pub unknown_entry : UnknownOption → Entry
unknown_entry o = record { code = o.code; value = Unknown o.length (cow_bytes o.value) }

-- The code and the value of a custom option with bytes.
abbrev pub custom_bytes_entry : CustomBinaryOption → Entry
custom_bytes_entry o = record { code = o.code; value = CustomBytes o.pen (cow_bytes o.value) }

-- The code and the value of a custom option with a string.
abbrev pub custom_string_entry : CustomUtf8Option → Entry
custom_string_entry o = record { code = o.code; value = CustomStr o.pen (cow_str_bytes o.value) }

-- The bytes of the unknown option are borrowed.
abbrev pub UnknownIsBorrowed : UnknownOption → Type 0
UnknownIsBorrowed o = IsBorrowed o.value

-- The bytes of the unknown option are owned.
abbrev pub UnknownIsOwned : UnknownOption → Type 0
UnknownIsOwned o = IsOwned o.value

-- The bytes of the custom option are borrowed.
abbrev pub CustomBytesIsBorrowed : CustomBinaryOption → Type 0
CustomBytesIsBorrowed o = IsBorrowed o.value

-- The bytes of the custom option are owned.
abbrev pub CustomBytesIsOwned : CustomBinaryOption → Type 0
CustomBytesIsOwned o = IsOwned o.value

-- The string of the custom option is borrowed.
abbrev pub CustomStringIsBorrowed : CustomUtf8Option → Type 0
CustomStringIsBorrowed o = IsBorrowedStr o.value

-- The string of the custom option is owned.
abbrev pub CustomStringIsOwned : CustomUtf8Option → Type 0
CustomStringIsOwned o = IsOwnedStr o.value

-- The contents of an option: its code and value, and the conditions under which its string or bytes are borrowed and owned.
pub record Carried : Type 1 where
  pub entry : Entry
  pub is_borrowed : Type 0
  pub is_owned : Type 0

-- An option with this code carries a string.
abbrev pub carries_string : {Z : Type 0} → ℕ → CowStr Z → Carried
carries_string code t = record { entry = record { code = code; value = Str (cow_str_bytes t) }; is_borrowed = IsBorrowedStr t; is_owned = IsOwnedStr t }

-- An option with this code carries bytes.
abbrev pub carries_bytes : ℕ → CowBytes → Carried
carries_bytes code b = record { entry = record { code = code; value = Bytes (cow_bytes b) }; is_borrowed = IsBorrowed b; is_owned = IsOwned b }

-- An option with this code carries a number, which borrows nothing and owns nothing.
abbrev pub carries_number : ℕ → ℕ → Carried
carries_number code n = record { entry = record { code = code; value = Integer n }; is_borrowed = Unit {0}; is_owned = Unit {0} }

-- A custom option carries bytes.
abbrev pub carries_custom_bytes : CustomBinaryOption → Carried
carries_custom_bytes o = record { entry = custom_bytes_entry o; is_borrowed = CustomBytesIsBorrowed o; is_owned = CustomBytesIsOwned o }

-- A custom option carries a string.
abbrev pub carries_custom_string : CustomUtf8Option → Carried
carries_custom_string o = record { entry = custom_string_entry o; is_borrowed = CustomStringIsBorrowed o; is_owned = CustomStringIsOwned o }

-- An unknown option carries bytes.
abbrev pub carries_unknown : UnknownOption → Carried
carries_unknown o = record { entry = unknown_entry o; is_borrowed = UnknownIsBorrowed o; is_owned = UnknownIsOwned o }
