-- The values of options, in the form in which they are written.
use Rattle.std.specs.Prelude.{◌≡◌, ◌≢◌, ◌<◌, ◌≤◌, ◌^◌, ℕ, List, [], ◌∷◌, ◌++◌, length, Option, Some, None, Result, Ok, Err, IsUtf8}
use Rattle.pcap_options.specs.Values.{Value, Str, Bytes, Integer, CustomStr, CustomBytes, Unknown, Entry, Shape, string, bytes, some_bytes, fixed_bytes, byte, number, first_number, first_time, custom_string, custom_bytes, unknown, Kind, shape_at}
use Rattle.pcap_written.specs.declared.form.Form.{Form}
use Rattle.pcap_written.specs.declared.form.Form.TheVariants as forms
use Rattle.pcap_written.specs.declared.unwritable.Unwritable.{Unwritable}
use Rattle.pcap_written.specs.declared.unwritable.Unwritable.TheVariants as flaws
use Rattle.pcap_core.specs.Codec.{Encoder}
use Rattle.pcap_written.specs.Text.{time_bytes}
use Rattle.pcap_written.specs.Flaws.{IsMisplaced}

-- The bytes of a form.
abbrev pub form_bytes : Encoder → Form → List ℕ
form_bytes write (forms.Bytes b) = b.now
form_bytes write (forms.Sized n rule b) = b.now
form_bytes write (forms.Filled rule b) = b.now
form_bytes write (forms.Byte n) = n ∷ []
form_bytes write (forms.Number32 n) = write 4 n
form_bytes write (forms.Number64 n) = write 8 n
form_bytes write (forms.Time n) = time_bytes write n
form_bytes write (forms.Custom pen b) = write 4 pen ++ b.now
form_bytes write (forms.Unknown len b) = b.now

-- The form is that of a value of this shape.
abbrev pub IsForm : Shape → Value → Form → Type 0
IsForm string (Str t) (forms.Bytes b) = (b.now ≡ t) × IsUtf8 t
IsForm bytes (Bytes v) (forms.Bytes b) = b.now ≡ v
IsForm (some_bytes empty) (Bytes v) (forms.Filled rule b) = (rule ≡ empty) × (b.now ≡ v)
IsForm (fixed_bytes w wrong_length) (Bytes v) (forms.Sized n rule b) = (n ≡ w) × (rule ≡ wrong_length) × (b.now ≡ v)
IsForm (byte wrong_length) (Integer n) (forms.Byte m) = (m ≡ n) × (n < 2 ^ 8)
IsForm (number w wrong_length) (Integer n) (forms.Number32 m) = (w ≡ 4) × (m ≡ n) × (n < 2 ^ 32)
IsForm (number w wrong_length) (Integer n) (forms.Number64 m) = (w ≡ 8) × (m ≡ n) × (n < 2 ^ 64)
IsForm first_number (Integer n) (forms.Number64 m) = (m ≡ n) × (n < 2 ^ 64)
IsForm first_time (Integer n) (forms.Time m) = (m ≡ n) × (n < 2 ^ 64)
IsForm custom_string (CustomStr pen t) (forms.Custom m b) = (m ≡ pen) × (pen < 2 ^ 32) × (b.now ≡ t) × IsUtf8 t
IsForm custom_bytes (CustomBytes pen v) (forms.Custom m b) = (m ≡ pen) × (pen < 2 ^ 32) × (b.now ≡ v)
IsForm unknown (Unknown len v) (forms.Unknown m b) = (m ≡ len) × (b.now ≡ v)
IsForm _ _ _ = ⊥

-- The code of an option and the form of its value, or None if the option is misplaced.
abbrev pub TellsCoded : Kind → Entry → Option (ℕ × Form) → Type 0
TellsCoded kind o None = IsMisplaced kind o
TellsCoded kind o (Some coded) = (coded.0 ≡ o.code) × (o.code ≢ 0) × (o.code < 2 ^ 16) × IsForm (shape_at kind o.code) o.value coded.1

-- The number of bytes meets the form's condition.
abbrev pub FitsForm : Form → Type 0
FitsForm (forms.Sized n rule b) = length b.now ≡ n
FitsForm (forms.Filled rule b) = length b.now ≢ 0
FitsForm (forms.Unknown len b) = length b.now ≡ len
FitsForm _ = Unit {0}

-- The form can't be written, for this reason.
abbrev pub FormFlaw : Form → Unwritable → Type 0
FormFlaw (forms.Sized n rule b) (flaws.Breaks broken) = (broken ≡ rule) × (length b.now ≢ n)
FormFlaw (forms.Filled rule b) (flaws.Breaks broken) = (broken ≡ rule) × (length b.now ≡ 0)
FormFlaw (forms.Unknown len b) flaws.OptionLengthDiffers = length b.now ≢ len
FormFlaw form flaws.OptionTooLong = (write : Encoder) → ((w n : ℕ) → length (write w n) ≡ w) → 2 ^ 16 ≤ length (form_bytes write form)
FormFlaw _ _ = ⊥

-- The form has `len` bytes in each byte order, or it can't be written for this reason.
abbrev pub MeasuresForm : Form → Result ℕ Unwritable → Type 0
MeasuresForm form (Ok len) = FitsForm form × (len < 2 ^ 16) × ((write : Encoder) → ((w n : ℕ) → length (write w n) ≡ w) → length (form_bytes write form) ≡ len)
MeasuresForm form (Err flaw) = FormFlaw form flaw
