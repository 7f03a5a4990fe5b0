-- Numbers in options that the library keeps as bytes, and those options in little-endian order ('Enhanced Packet Block').
use Rattle.std.specs.Prelude.{◌==◌, ◌||◌, ◌++◌, if◌then◌else◌, ℕ, List, length, reverse, take, drop, slice_index, Option, None, Some, IsSome}
use Rattle.std.specs.List.{Any}
use Rattle.pcap_core.specs.declared.common.Endianness.{Endianness}
use Rattle.pcap_core.specs.declared.common.Endianness.TheVariants.{Big, Little}
use Rattle.pcap_options.specs.Values.{Entry, Value, Unknown}

-- This width, if a value is n bytes long.
abbrev pub if_long : ℕ → List ℕ → ℕ → Option ℕ
if_long n v width = if length v == n then Some width else None

-- The width of the type of a verdict, if it is that of an eBPF program (1 or 2). A number follows such a type.
abbrev pub verdict_width : List ℕ → Option ℕ
verdict_width v = if (slice_index v 0 == 1) || (slice_index v 0 == 2) then if_long 9 v 1 else None

-- The width of the first number in the value of an option with this code, and the rest of the value is a second number. A packet ID
-- (code 5) and a queue (6) are one number. A verdict (7) is a type and then a number. A process and its thread (8) are two numbers.
abbrev pub first_width : ℕ → List ℕ → Option ℕ
first_width code v =
    if code == 5 then if_long 8 v 8 else if code == 6 then if_long 4 v 4 else if code == 7 then verdict_width v else if code == 8 then if_long 8 v 4 else None

-- The width of the first number of an option, if the library keeps its numbers as bytes.
abbrev pub width_in : ℕ → Value → Option ℕ
width_in code (Unknown len v) = first_width code v
width_in code _ = None

-- An option has numbers that the library keeps as bytes.
abbrev pub HasNumbers : Entry → Type 0
HasNumbers option = IsSome (width_in option.code option.value)

-- The bytes of a first number of this width, and those of a second number, in the other order.
abbrev pub reversed_bytes : Option ℕ → List ℕ → List ℕ
reversed_bytes None v = v
reversed_bytes (Some width) v = reverse (take width v) ++ reverse (drop width v)

-- The value of an option with this code, with the bytes of its numbers in the other order.
abbrev pub reversed_value : ℕ → Value → Value
reversed_value code (Unknown len v) = Unknown len (reversed_bytes (first_width code v) v)
reversed_value code value = value

-- An option of a section of this order, as a little-endian section has it.
abbrev pub little_entry : Endianness → Entry → Entry
little_entry Big option = record { code = option.code; value = reversed_value option.code option.value }
little_entry Little option = option

-- Some of these options of a section of this order have numbers whose bytes a little-endian section has in the other order.
abbrev pub NeedReordering : Endianness → List Entry → Type 0
NeedReordering Big options = Any HasNumbers options
NeedReordering Little options = ⊥
