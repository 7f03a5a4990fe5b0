-- The bytes of values, options and lists, as they are written ('General Block Structure', 'Options').
use Rattle.std.specs.Prelude.{◌-◌, ◌/◌, ◌%◌, ◌^◌, ℕ, List, [], ◌∷◌, ◌++◌, length, take}
use Rattle.std.specs.List.{flat_map}
use Rattle.pcap_core.specs.Padded.{up_to_4}
use Rattle.pcap_options.specs.Values.{Value, Str, Bytes, Integer, CustomStr, CustomBytes, Unknown, Entry, Shape, string, bytes, some_bytes, fixed_bytes, byte, number, first_number, first_time, custom_string, custom_bytes, unknown, Kind, shape_at}
use Rattle.pcap_core.specs.Codec.{Encoder}

-- The zero bytes up to the next multiple of 4.
abbrev pub padding : ℕ → List ℕ
padding n = take (up_to_4 n - n) (0 ∷ 0 ∷ 0 ∷ [])

-- Bytes, and their padding.
abbrev pub padded_bytes : List ℕ → List ℕ
padded_bytes v = v ++ padding (length v)

-- A timestamp, its high 4 bytes before its low 4.
abbrev pub time_bytes : Encoder → ℕ → List ℕ
time_bytes write n = write 4 (n / 2 ^ 32) ++ write 4 (n % 2 ^ 32)

-- A number in an option of this shape; a counter and a timestamp have 8 bytes.
abbrev pub integer_bytes : Encoder → Shape → ℕ → List ℕ
integer_bytes write (byte wrong) n = n ∷ []
integer_bytes write (number w wrong) n = write w n
integer_bytes write first_number n = write 8 n
integer_bytes write first_time n = time_bytes write n
integer_bytes write string n = []
integer_bytes write bytes n = []
integer_bytes write (some_bytes empty) n = []
integer_bytes write (fixed_bytes w wrong) n = []
integer_bytes write custom_string n = []
integer_bytes write custom_bytes n = []
integer_bytes write unknown n = []

-- The value of an option of this shape; the number of an enterprise comes before its string or bytes.
abbrev pub value_text : Encoder → Shape → Value → List ℕ
value_text write shape (Str t) = t
value_text write shape (Bytes b) = b
value_text write shape (Integer n) = integer_bytes write shape n
value_text write shape (CustomStr pen t) = write 4 pen ++ t
value_text write shape (CustomBytes pen b) = write 4 pen ++ b
value_text write shape (Unknown len b) = b

-- The code of an option, or the type of a record, then the length of its value, and the value with its padding.
abbrev pub coded_bytes : Encoder → ℕ → List ℕ → List ℕ
coded_bytes write code v = write 2 code ++ (write 2 (length v) ++ padded_bytes v)

-- The value of an option of this kind.
abbrev pub option_value : Encoder → Kind → Entry → List ℕ
option_value write kind o = value_text write (shape_at kind o.code) o.value

-- An option of this kind: its code, its length, and its value with padding.
abbrev pub option_text : Encoder → Kind → Entry → List ℕ
option_text write kind o = coded_bytes write o.code (option_value write kind o)

-- The mark that ends a list.
abbrev pub end_mark : Encoder → List ℕ
end_mark write = write 2 0 ++ write 2 0

-- A list of options, and its end mark; nothing if there are no options.
abbrev pub list_text : Encoder → Kind → List Entry → List ℕ
list_text write kind [] = []
list_text write kind (o ∷ os) = flat_map (option_text write kind) (o ∷ os) ++ end_mark write
