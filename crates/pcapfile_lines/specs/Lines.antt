-- This file defines the lines of packets in several forms.
use Rattle.std.specs.Prelude.{◌≡◌, ◌⊎◌, ◌^◌, ◌-◌, ◌+ℤ◌, ◌*ℤ◌, ℕ, ℤ, pos, negsuc, List, [], ◌++◌, codes, nat_lt, if◌then◌else◌, false, Option, None, Some, option_map}
use Rattle.std.specs.Fmt.{decimal, format_spec, padded_integral}
use Rattle.jiff_core.specs.declared.civil.datetime.DateTime.{DateTime}
use Rattle.jiff_core.specs.DateTime.{civil_nanos}
use Rattle.jiff_core.specs.Timestamp.{IsTimestampNanos}
use Rattle.jiff_fmt.specs.Text.{datetime_text, zulu_text}
use Rattle.serde_json.specs.Data.{Data, Members, null, number, object, unsigned, put, no_members}
use Rattle.serde_json.specs.Written.{compact_text}
use Rattle.pcap_times.specs.declared.clock.Timestamp.{Timestamp}
use Rattle.pcapfile_lines.specs.declared.columns.Columns.{Columns}
use Rattle.pcapfile_lines.specs.declared.form.Form.{Form}
use Rattle.pcapfile_lines.specs.declared.form.Form.TheVariants.{Utc, Csv, UtcCsv, Json, Hex, UtcHex}
use Rattle.pcapfile_lines.specs.declared.seen.Seen.{Seen}
use Rattle.pcapfile_lines.specs.Rows.{has_rows, with_rows}

-- The seconds since 1970, if they are a natural number of 64 bits, and the nanoseconds after them.
abbrev pub instant_at : ℤ → ℕ → Option (ℕ × ℕ)
instant_at (pos seconds) nanoseconds = if nat_lt seconds (2 ^ 64) then Some (seconds, nanoseconds) else None
instant_at (negsuc before) nanoseconds = None

-- The seconds and nanoseconds of a time, if there is one.
abbrev pub instant_in : Option Timestamp → Option (ℕ × ℕ)
instant_in (Some time) = instant_at time.seconds time.nanoseconds
instant_in None = None

-- The columns of a packet. All are unknown for a packet with a malformed body.
abbrev pub columns_of : Option Seen → Columns
columns_of (Some seen) = record {
  seconds = option_map (λ i. i.0) (instant_in seen.time);
  nanoseconds = option_map (λ i. i.1) (instant_in seen.time);
  captured = Some seen.captured;
  original = Some seen.original;
  interface = seen.interface;
}
columns_of None = record { seconds = None; nanoseconds = None; captured = None; original = None; interface = None }

-- The text of a column, empty if its number isn't known.
abbrev pub column_text : Option ℕ → List ℕ
column_text (Some n) = decimal n
column_text None = []

-- The line of a packet in a CSV table.
abbrev pub csv_line : ℕ → Columns → List ℕ
csv_line index c =
    decimal index ++ (codes "," ++ (column_text c.seconds ++ (codes "," ++ (column_text c.nanoseconds ++ (codes "," ++ (column_text c.captured
    ++ (codes "," ++ (column_text c.original ++ (codes "," ++ (column_text c.interface ++ codes "\n"))))))))))

-- A JSON number, or null if the number isn't known.
abbrev pub number_or_null : Option ℕ → Data
number_or_null (Some n) = number (unsigned n)
number_or_null None = null

-- Adds the members for a packet's number and time.
abbrev pub with_time : ℕ → Columns → Members → Members
with_time index c members =
    put (codes "nanoseconds") (number_or_null c.nanoseconds) (put (codes "seconds") (number_or_null c.seconds) (put (codes "index") (number (unsigned index)) members))

-- Adds the members for its lengths and its interface.
abbrev pub with_sizes : Columns → Members → Members
with_sizes c members =
    put (codes "interface") (number_or_null c.interface) (put (codes "original") (number_or_null c.original) (put (codes "captured") (number_or_null c.captured) members))

-- The JSON object of a packet.
abbrev pub packet_data : ℕ → Columns → Data
packet_data index c = object (with_sizes c (with_time index c no_members))

-- The line of a packet as a JSON object.
abbrev pub json_line : ℕ → Columns → List ℕ
json_line index c = compact_text (packet_data index c) ++ codes "\n"

-- The nanoseconds from 1970 to a time.
abbrev pub nanoseconds_of : Timestamp → ℤ
nanoseconds_of time = time.seconds *ℤ pos 1_000_000_000 +ℤ pos time.nanoseconds

-- ShowsInstant n text: `text` is n nanoseconds from 1970 in UTC: date and time with nine digits after the point, and Z.
abbrev pub ShowsInstant : ℤ → List ℕ → Type 0
ShowsInstant n text = (shown : DateTime) × (civil_nanos shown ≡ n) × (text ≡ datetime_text false 84 (Some 9) shown ++ zulu_text false)

-- IsUtcTextOr other time text: `text` is the time in UTC, or this other text if there is no time or its year is not in the calendar.
abbrev pub IsUtcTextOr : List ℕ → Option Timestamp → List ℕ → Type 0
IsUtcTextOr other None text = text ≡ other
IsUtcTextOr other (Some time) text =
    ShowsInstant (nanoseconds_of time) text
    ⊎ ((IsTimestampNanos (nanoseconds_of time) → ⊥) × (text ≡ other))

-- IsUtcText time text: `text` is the time in UTC, or a hyphen if there is no time or its year is not in the calendar.
abbrev pub IsUtcText : Option Timestamp → List ℕ → Type 0
IsUtcText = IsUtcTextOr (codes "-")

-- The end of a line is the number of an interface, if there is one.
abbrev pub interface_text : Option ℕ → List ℕ
interface_text (Some n) = codes " " ++ decimal n
interface_text None = []

-- The line of a packet with this time and this end.
abbrev pub timed_line : ℕ → List ℕ → ℕ → ℕ → List ℕ → List ℕ
timed_line index time captured original interface =
    decimal index ++ (codes " " ++ (time ++ (codes " " ++ (decimal captured ++ (codes "/" ++ (decimal original ++ (interface ++ codes "\n")))))))

-- The line of a packet with a malformed body.
abbrev pub refused_text : ℕ → List ℕ
refused_text index = decimal index ++ codes " refused\n"

-- IsUtcLine: the line of a packet with its time in UTC, or with the word refused if its body is malformed.
abbrev pub IsUtcLine : ℕ → Option Seen → List ℕ → Type 0
IsUtcLine index (Some seen) line =
    (time : List ℕ) × IsUtcText seen.time time × (line ≡ timed_line index time seen.captured seen.original (interface_text seen.interface))
IsUtcLine index None line = line ≡ refused_text index

-- A number with zeros in front up to nine digits, as `{:09}` writes it.
abbrev pub nine_digits : ℕ → List ℕ
nine_digits n = padded_integral (format_spec 32 0 4 9 (2 ^ 64 - 1)) false [] (decimal n)

-- The text of a time in seconds and nanoseconds, or a hyphen if they aren't known.
abbrev pub plain_text : Option (ℕ × ℕ) → List ℕ
plain_text (Some instant) = decimal instant.0 ++ (codes "." ++ nine_digits instant.1)
plain_text None = codes "-"

-- The line of a packet with its time in seconds since 1970, or with the word refused if its body is malformed.
abbrev pub plain_line : ℕ → Option Seen → List ℕ
plain_line index (Some seen) = timed_line index (plain_text (instant_in seen.time)) seen.captured seen.original (interface_text seen.interface)
plain_line index None = refused_text index

-- The line of a packet in a CSV table with this text of its time.
abbrev pub utc_csv_row : ℕ → List ℕ → Seen → List ℕ
utc_csv_row index time seen =
    decimal index ++ (codes "," ++ (time ++ (codes "," ++ (decimal seen.captured ++ (codes "," ++ (decimal seen.original ++ (codes ","
    ++ (column_text seen.interface ++ codes "\n"))))))))

-- IsUtcCsvLine: the line of a packet in a CSV table with its time in UTC, empty if it has none. All columns behind the index are empty if its
-- body is malformed.
abbrev pub IsUtcCsvLine : ℕ → Option Seen → List ℕ → Type 0
IsUtcCsvLine index (Some seen) line = (time : List ℕ) × IsUtcTextOr [] seen.time time × (line ≡ utc_csv_row index time seen)
IsUtcCsvLine index None line = line ≡ decimal index ++ codes ",,,,\n"

-- IsLineIn form index packet line: `line` is the line of a packet in this form.
abbrev pub IsLineIn : Form → ℕ → Option Seen → List ℕ → Type 0
IsLineIn Utc index packet line = IsUtcLine index packet line
IsLineIn Csv index packet line = line ≡ csv_line index (columns_of packet)
IsLineIn UtcCsv index packet line = IsUtcCsvLine index packet line
IsLineIn Json index packet line = line ≡ json_line index (columns_of packet)
IsLineIn Hex index packet line = line ≡ plain_line index packet
IsLineIn UtcHex index packet line = IsUtcLine index packet line

-- IsItemIn form index packet bytes text: `text` is the line of a packet in this form, and the rows of its bytes if they follow the line.
abbrev pub IsItemIn : Form → ℕ → Option Seen → List ℕ → List ℕ → Type 0
IsItemIn form index packet bytes text = (line : List ℕ) × IsLineIn form index packet line × (text ≡ with_rows (has_rows form) line bytes)
