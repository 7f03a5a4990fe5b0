-- Lookups of values in lists of options, by code ('Options').
use Rattle.std.specs.Prelude.{◌==◌, if◌then◌else◌, ℕ, List, Option, Some, None, slice_get}
use Rattle.std.specs.List.{filter_map}
use Rattle.pcap_options.specs.Values.{Value, Str, Bytes, Integer, CustomStr, CustomBytes, Unknown, Entry}
use Rattle.pcap_options.specs.declared.held.Held.{Held}
use Rattle.pcap_options.specs.declared.held.HeldValue.{HeldValue}
use Rattle.pcap_options.specs.declared.held.HeldValue.TheVariants as held

-- The value behind a borrowed view of an option's value.
abbrev pub value_held : HeldValue → Value
value_held (held.Str s) = Str s.now
value_held (held.Bytes s) = Bytes s.now
value_held (held.Integer n) = Integer n
value_held (held.CustomStr pen s) = CustomStr pen s.now
value_held (held.CustomBytes pen s) = CustomBytes pen s.now
value_held (held.Unknown len s) = Unknown len s.now

-- The code and the value behind a borrowed view of an option.
abbrev pub entry_held : Held → Entry
entry_held o = record { code = o.code; value = value_held o.value }

-- The string of a value, if the value is a string.
abbrev pub string_in : Value → Option (List ℕ)
string_in (Str t) = Some t
string_in _ = None

-- The number of a value, if the value is a number.
abbrev pub number_in : Value → Option ℕ
number_in (Integer n) = Some n
number_in _ = None

-- The bytes of a value, if the value is that of an unknown option.
abbrev pub unknown_in : Value → Option (List ℕ)
unknown_in (Unknown len b) = Some b
unknown_in _ = None

-- The string, number or bytes of an option, if the option has this code and a value of this sort.
abbrev pub under : {X : Type 0} → ℕ → (Value → Option X) → Entry → Option X
under code such option = if option.code == code then such option.value else None

-- The string, number or bytes of the first option that has this code and a value of this sort.
abbrev pub first_under : {X : Type 0} → ℕ → (Value → Option X) → List Entry → Option X
first_under code such options = slice_get (filter_map (under code such) options) 0
