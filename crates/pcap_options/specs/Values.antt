-- Options and their values ('Options', 'Custom Options').
use Rattle.std.specs.Prelude.{◌≡◌, ◌+◌, ◌*◌, ◌^◌, ℕ, List, [], ◌∷◌, length, take, drop, slice_index, Result, Ok, Err, ◌==◌, nat_lt, if◌then◌else◌}
use Rattle.std.specs.Str.{is_utf8}
use Rattle.pcap_core.specs.Answer.{Order, Verdict, Says}
use Rattle.pcap_core.specs.Faults.{Fault, Invalid, Io, Utf8}
use Rattle.pcap_core.specs.declared.rules.Rule.{Rule}

-- A value is a string, bytes or a number. A custom option's value also has an enterprise number, and an unknown option's has its length.
pub data Value : Type 0 where
  Str : List ℕ → Value
  Bytes : List ℕ → Value
  Integer : ℕ → Value
  CustomStr : ℕ → List ℕ → Value
  CustomBytes : ℕ → List ℕ → Value
  Unknown : ℕ → List ℕ → Value

-- An option is a code and a value, wherever its bytes are in memory.
pub record Entry : Type 0 where
  pub code : ℕ
  pub value : Value

-- The bytes or the string of a value.
abbrev pub value_bytes : Value → List ℕ
value_bytes (Str t) = t
value_bytes (Bytes b) = b
value_bytes (Integer n) = []
value_bytes (CustomStr pen t) = t
value_bytes (CustomBytes pen b) = b
value_bytes (Unknown len b) = b

-- The number of a value: its own, the enterprise number of a custom option, or the length of an unknown option.
abbrev pub integer_in : Value → ℕ
integer_in (Str t) = 0
integer_in (Bytes b) = 0
integer_in (Integer n) = n
integer_in (CustomStr pen t) = pen
integer_in (CustomBytes pen b) = pen
integer_in (Unknown len b) = len

-- A shape is how the bytes of a value are read. Another length than the shape's breaks its rule. First numbers and times ignore bytes after
-- the first 8.
pub data Shape : Type 0 where
  string : Shape
  bytes : Shape
  some_bytes : Rule → Shape
  fixed_bytes : ℕ → Rule → Shape
  byte : Rule → Shape
  number : ℕ → Rule → Shape
  first_number : Shape
  first_time : Shape
  custom_string : Shape
  custom_bytes : Shape
  unknown : Shape

-- The string of some bytes, or a fault if they aren't UTF-8.
abbrev pub string_at : List ℕ → Result (List ℕ) Fault
string_at v = if is_utf8 v then Ok v else Err Utf8

-- The value that is made of what was read, or the same fault.
abbrev pub with_value : (List ℕ → Value) → Result (List ℕ) Fault → Result Value Fault
with_value make (Ok x) = Ok (make x)
with_value make (Err fault) = Err fault

-- The value of one byte or more, or a fault if there is none.
abbrev pub some_at : Rule → List ℕ → Result Value Fault
some_at empty v = if length v == 0 then Err (Invalid empty) else Ok (Bytes v)

-- The value of exactly `n` bytes, or a fault.
abbrev pub fixed_at : ℕ → Rule → List ℕ → Result Value Fault
fixed_at n wrong_length v = if length v == n then Ok (Bytes v) else Err (Invalid wrong_length)

-- The value of exactly one byte as a number, or a fault.
abbrev pub byte_at : Rule → List ℕ → Result Value Fault
byte_at wrong_length v = if length v == 1 then Ok (Integer (slice_index v 0)) else Err (Invalid wrong_length)

-- The value of a number of exactly `n` bytes, or a fault.
abbrev pub number_at : Order → ℕ → Rule → List ℕ → Result Value Fault
number_at order n wrong_length v = if length v == n then Ok (Integer (order n v)) else Err (Invalid wrong_length)

-- The number in the first 8 bytes, or a fault if there are fewer.
abbrev pub first_number_at : Order → List ℕ → Result Value Fault
first_number_at order v = if nat_lt (length v) 8 then Err Io else Ok (Integer (order 8 (take 8 v)))

-- The time in the first 8 bytes, its high 4 bytes before its low 4, or a fault if there are fewer.
abbrev pub first_time_at : Order → List ℕ → Result Value Fault
first_time_at order v = if nat_lt (length v) 8 then Err Io else Ok (Integer (order 4 (take 4 v) * 2 ^ 32 + order 4 (take 4 (drop 4 v))))

-- The value of some bytes read as this shape, or a fault.
abbrev pub value_of : Order → Shape → List ℕ → Result Value Fault
value_of order string v = with_value Str (string_at v)
value_of order bytes v = Ok (Bytes v)
value_of order (some_bytes empty) v = some_at empty v
value_of order (fixed_bytes n wrong_length) v = fixed_at n wrong_length v
value_of order (byte wrong_length) v = byte_at wrong_length v
value_of order (number n wrong_length) v = number_at order n wrong_length v
value_of order first_number v = first_number_at order v
value_of order first_time v = first_time_at order v
value_of order custom_string v = if nat_lt (length v) 4 then Err Io else with_value (CustomStr (order 4 (take 4 v))) (string_at (drop 4 v))
value_of order custom_bytes v = if nat_lt (length v) 4 then Err Io else Ok (CustomBytes (order 4 (take 4 v)) (drop 4 v))
value_of order unknown v = Ok (Unknown (length v) v)

-- AllSay read verdict: the verdict on bytes that are all read is this value, with nothing after it, or this fault.
abbrev pub AllSay : {V : Type 0} → Result V Fault → Verdict V → Type 0
AllSay read = Says (λ value rest. (read ≡ Ok value) × (rest ≡ [])) (λ n. ⊥) (λ fault. read ≡ Err fault)

-- EntrySays order shape code v verdict: `v` read as the whole value of an option of this shape and code gives this verdict, the option or a
-- fault.
abbrev pub EntrySays : Order → Shape → ℕ → List ℕ → Verdict Entry → Type 0
EntrySays order shape code v =
    Says
    (λ option rest. (option.code ≡ code) × (value_of order shape v ≡ Ok option.value) × (rest ≡ []))
    (λ n. ⊥)
    (λ fault. value_of order shape v ≡ Err fault)

-- A kind of option is a table with a shape for each known code.
abbrev pub Kind : Type 0
Kind = List (ℕ × Shape)

-- The shape of a code in the table, or unknown if the table doesn't have the code.
abbrev pub shape_at : Kind → ℕ → Shape
shape_at [] code = unknown
shape_at ((named, shape) ∷ rows) code = if code == named then shape else shape_at rows code

-- The codes and shapes of custom options, which every kind has.
abbrev pub custom : Kind
custom = (2988, custom_string) ∷ (19372, custom_string) ∷ (2989, custom_bytes) ∷ (19373, custom_bytes) ∷ []
