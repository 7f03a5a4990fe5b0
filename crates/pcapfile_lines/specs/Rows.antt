-- This file defines the rows of a packet's bytes, which `list --hex` writes after the packet's line.
use Rattle.std.specs.Prelude.{◌-◌, ◌+◌, ◌*◌, ◌/◌, ◌%◌, ◌^◌, ◌&&◌, if◌then◌else◌, min, nat_le, nat_lt, ℕ, Bool, true, false, List, ◌∷◌, ◌++◌, codes, drop, flat_map, length, map, replicate, slice_index}
use Rattle.std.specs.Fork.{slice_chunk}
use Rattle.std.specs.Int.{w64, to_be_bytes}
use Rattle.std.specs.List.{range_with_len}
use Rattle.hex.specs.Hex.{encode_lower, lower_digits}
use Rattle.pcapfile_lines.specs.declared.form.Form.{Form}
use Rattle.pcapfile_lines.specs.declared.form.Form.TheVariants.{Hex, UtcHex}

-- The two digits of a byte, and a blank.
abbrev pub byte_text : ℕ → List ℕ
byte_text byte = slice_index lower_digits (byte / 16) ∷ slice_index lower_digits (byte % 16) ∷ codes " "

-- The character of a byte: the byte itself if it is a printable ASCII character or a blank, otherwise a dot.
abbrev pub character_of : ℕ → ℕ
character_of byte = if nat_le 32 byte && nat_lt byte 127 then byte else 46

-- The number of digits of the offsets of a packet with n bytes is the least from four on that is enough for n offsets. It is 16 from 2^32 on.
abbrev pub offset_digits : ℕ → ℕ
offset_digits n =
    if nat_le n (16 ^ 4) then 4
    else if nat_le n (16 ^ 5) then 5
    else if nat_le n (16 ^ 6) then 6
    else if nat_le n (16 ^ 7) then 7
    else if nat_le n (16 ^ 8) then 8
    else 16

-- The last digits of the sixteen that an offset has.
abbrev pub offset_text : ℕ → ℕ → List ℕ
offset_text digits offset = drop (16 - digits) (encode_lower (to_be_bytes w64 offset))

-- The row of at most sixteen bytes at this offset. Blanks fill the places of bytes that it doesn't have.
abbrev pub row_text : ℕ → ℕ → List ℕ → List ℕ
row_text digits offset bytes =
    offset_text digits offset ++ (codes "  " ++ (flat_map byte_text bytes ++ (replicate (3 * (16 - length bytes) + 2) 32 ++ (map character_of bytes ++ codes "\n"))))

-- The number of rows of n bytes.
abbrev pub row_count : ℕ → ℕ
row_count n = n / 16 + min 1 (n % 16)

-- The row of a packet's bytes with this number has sixteen of the bytes, or in the last row the others.
abbrev pub nth_row : List ℕ → ℕ → List ℕ
nth_row bytes number = row_text (offset_digits (length bytes)) (number * 16) (slice_chunk bytes 16 number)

-- The text of a packet's bytes: all rows, and an empty line.
abbrev pub rows_text : List ℕ → List ℕ
rows_text bytes = flat_map (nth_row bytes) (range_with_len 0 (row_count (length bytes))) ++ codes "\n"

-- Whether the rows of a packet's bytes follow its line in this form.
abbrev pub has_rows : Form → Bool
has_rows Hex = true
has_rows UtcHex = true
has_rows _ = false

-- A line, and the rows of the bytes if they follow it.
abbrev pub with_rows : Bool → List ℕ → List ℕ → List ℕ
with_rows true line bytes = line ++ rows_text bytes
with_rows false line bytes = line
