-- Numbers, durations and bars as text.
use Rattle.std.specs.Prelude.{◌+◌, ◌*◌, ◌/◌, ◌%◌, ◌-◌, ◌^◌, ◌++◌, ◌==◌, if◌then◌else◌, ℕ, ℤ, pos, negsuc, List, length, replicate, codes, min, nat_lt, nat_le, Option, None, Some}
use Rattle.std.specs.Fmt.{decimal}
use Rattle.pcap_times.specs.declared.clock.Timestamp.{Timestamp}

-- A number with leading zeros, at least this many digits wide.
abbrev pub zero_padded : ℕ → ℕ → List ℕ
zero_padded width n = replicate (width - length (decimal n)) 48 ++ decimal n

-- Nanoseconds as seconds with nine decimal places.
abbrev pub seconds_text : ℕ → List ℕ
seconds_text n = decimal (n / 1000000000) ++ (codes "." ++ zero_padded 9 (n % 1000000000))

-- Hundredths with two decimal places.
abbrev pub hundredths_text : ℕ → List ℕ
hundredths_text n = decimal (n / 100) ++ (codes "." ++ zero_padded 2 (n % 100))

-- The length of a count's bar: its share of the largest count, of which the bar has 40 signs, rounded up.
abbrev pub bar_length : ℕ → ℕ → ℕ
bar_length count largest = if largest == 0 then 0 else min 40 ((count * 40 + largest - 1) / largest)

-- The nanoseconds from 1970 to a time with these seconds and nanoseconds, if the seconds are a 64-bit number.
abbrev pub since_1970_at : ℤ → ℕ → Option ℕ
since_1970_at (pos seconds) nanoseconds = if nat_lt seconds (2 ^ 64) then Some (seconds * 1000000000 + nanoseconds) else None
since_1970_at (negsuc before) nanoseconds = None

-- The nanoseconds from 1970 to a time, if its seconds are a 64-bit number.
abbrev pub since_1970 : Timestamp → Option ℕ
since_1970 time = since_1970_at time.seconds time.nanoseconds

-- The second number minus the first, if both are known and the second isn't less.
abbrev pub difference : Option ℕ → Option ℕ → Option ℕ
difference (Some less) (Some more) = if nat_le less more then Some (more - less) else None
difference _ _ = None

-- The average share of this many, in hundredths of a unit, rounded down; none if there are 0.
abbrev pub average_of : ℕ → ℕ → Option ℕ
average_of total number = if number == 0 then None else Some (total * 100 / number)

-- The hundredths of a unit per second, rounded down, for this many units in this many nanoseconds; none if these are 0.
abbrev pub per_second : ℕ → ℕ → Option ℕ
per_second count nanoseconds = if nanoseconds == 0 then None else Some (count * 100000000000 / nanoseconds)
