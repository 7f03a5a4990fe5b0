-- Values in their forms are read as they were.
use Rattle.std.proofs.Common.{◌≡◌, ℕ, ◌<◌, ◌+◌, ◌*◌, ◌/◌, ◌%◌, ◌^◌, List, [], ◌∷◌, ◌++◌, length, take, drop, refl, sym, ap, ◌∙◌, length-append, append_assoc, append-nil, arith, Ok}
use Rattle.std.specs.Prelude.{nat_lt, false, Some}
use Rattle.std.proofs.lemmas.Bool.{le-ltb, eq-eqb, ne_eqb}
use Rattle.std.proofs.lemmas.List.{take_at, drop_at, take_all}
use Rattle.pcap_core.specs.declared.rules.Rule.{Rule}
use Rattle.pcap_core.specs.Answer.{Order}
use Rattle.pcap_options.specs.Values.{Value, Str, Bytes, Integer, CustomStr, CustomBytes, Unknown, Entry, Kind, shape_at, Shape, string, bytes, some_bytes, fixed_bytes, byte, number, first_number, first_time, custom_string, custom_bytes, unknown, value_of, with_value, number_at}
use Rattle.pcap_options.proofs.Strings.{string_is}
use Rattle.pcap_written.specs.declared.form.Form.{Form}
use Rattle.pcap_written.specs.declared.form.Form.TheVariants as forms
use Rattle.pcap_core.specs.Codec.{Encoder, IsCodec}
use Rattle.pcap_written.specs.Text.{padding, value_text, time_bytes, option_value, option_text}
use Rattle.pcap_written.specs.Fits.{IsFitOption}
use Rattle.pcap_written.specs.Forms.{IsForm, FitsForm, MeasuresForm, TellsCoded, form_bytes}

-- The text of a value is that of its form.
pub form_text : (write : Encoder) (shape : Shape) (value : Value) (form : Form) → IsForm shape value form → form_bytes write form ≡ value_text write shape value
form_text write string (Str t) (forms.Bytes b) x = x.0
form_text write bytes (Bytes v) (forms.Bytes b) x = x
form_text write (some_bytes empty) (Bytes v) (forms.Filled rule b) x = x.1
form_text write (fixed_bytes w wrong) (Bytes v) (forms.Sized n rule b) x = x.2
form_text write (byte wrong) (Integer n) (forms.Byte m) x = ap (λ (k : ℕ). k ∷ []) x.0
form_text write (number w wrong) (Integer n) (forms.Number32 m) x = rw (x.0, x.1) refl
form_text write (number w wrong) (Integer n) (forms.Number64 m) x = rw (x.0, x.1) refl
form_text write first_number (Integer n) (forms.Number64 m) x = ap (write 8) x.0
form_text write first_time (Integer n) (forms.Time m) x = ap (time_bytes write) x.0
form_text write custom_string (CustomStr pen t) (forms.Custom m b) x = rw (x.0, x.2) refl
form_text write custom_bytes (CustomBytes pen v) (forms.Custom m b) x = rw (x.0, x.2) refl
form_text write unknown (Unknown len v) (forms.Unknown m b) x = x.1
form_text write _ _ _ x = absurd x

module _ (order : Order) (write : Encoder) (c : IsCodec order write) where
  same_number : (w n : ℕ) → n < 256 ^ w → order w (write w n) ≡ n
  same_number w n lt = ap (order w) (sym (append-nil (write w n))) ∙ c.again w n [] lt

  kept_number : (w n : ℕ) (wrong : Rule) → n < 256 ^ w → number_at order w wrong (write w n) ≡ Ok (Integer n)
  kept_number w n wrong lt = rw (eq-eqb (length (write w n)) w (c.wide w n), same_number w n lt) refl

  custom_long : (pen : ℕ) (b : List ℕ) → nat_lt (length (write 4 pen ++ b)) 4 ≡ false
  custom_long pen b = le-ltb (length (write 4 pen ++ b)) 4 (omega (arith, length-append (write 4 pen) b, c.wide 4 pen))

  custom_pen : (pen : ℕ) (b : List ℕ) → pen < 2 ^ 32 → order 4 (take 4 (write 4 pen ++ b)) ≡ pen
  custom_pen pen b lt = rw (take_at (write 4 pen) b 4 (c.wide 4 pen)) (same_number 4 pen lt)

  custom_rest : (pen : ℕ) (b : List ℕ) → drop 4 (write 4 pen ++ b) ≡ b
  custom_rest pen b = drop_at (write 4 pen) b 4 (c.wide 4 pen)

  kept_time : (n : ℕ) → n < 2 ^ 64 → value_of order first_time (time_bytes write n) ≡ Ok (Integer n)
  kept_time n lt =
      let high = n / 2 ^ 32 in
      let low = n % 2 ^ 32 in
      let long : nat_lt (length (time_bytes write n)) 8 ≡ false = le-ltb (length (time_bytes write n)) 8 (omega (arith, length-append (write 4 high) (write 4 low), c.wide 4 high, c.wide 4 low)) in
      let all : take 4 (write 4 low) ≡ write 4 low = take_all 4 (write 4 low) (omega (arith, c.wide 4 low)) in
      let both : high * 2 ^ 32 + low ≡ n = omega arith in
      rw (long, take_at (write 4 high) (write 4 low) 4 (c.wide 4 high), drop_at (write 4 high) (write 4 low) 4 (c.wide 4 high), all, same_number 4 high (omega (arith, lt)), same_number 4 low (omega arith), both) refl

  kept_counter : (n : ℕ) → n < 2 ^ 64 → value_of order first_number (write 8 n) ≡ Ok (Integer n)
  kept_counter n lt =
      let long : nat_lt (length (write 8 n)) 8 ≡ false = le-ltb (length (write 8 n)) 8 (omega (arith, c.wide 8 n)) in
      rw (long, take_all 8 (write 8 n) (omega (arith, c.wide 8 n)), same_number 8 n lt) refl

  -- The text of a value in a form is read as the same value.
  pub form_kept : (shape : Shape) (value : Value) (form : Form) → IsForm shape value form → FitsForm form → value_of order shape (value_text write shape value) ≡ Ok value
  form_kept string (Str t) (forms.Bytes b) x fits = ap (with_value Str) (string_is t x.1)
  form_kept bytes (Bytes v) (forms.Bytes b) x fits = refl
  form_kept (some_bytes empty) (Bytes v) (forms.Filled rule b) x fits = rw (ne_eqb (length v) 0 (λ e. fits (ap length x.1 ∙ e))) refl
  form_kept (fixed_bytes w wrong) (Bytes v) (forms.Sized n rule b) x fits = rw (eq-eqb (length v) w (ap length (sym x.2) ∙ fits ∙ x.0)) refl
  form_kept (byte wrong) (Integer n) (forms.Byte m) x fits = refl
  form_kept (number w wrong) (Integer n) (forms.Number32 m) x fits = rw x.0 (kept_number 4 n wrong x.2)
  form_kept (number w wrong) (Integer n) (forms.Number64 m) x fits = rw x.0 (kept_number 8 n wrong x.2)
  form_kept first_number (Integer n) (forms.Number64 m) x fits = kept_counter n x.1
  form_kept first_time (Integer n) (forms.Time m) x fits = kept_time n x.1
  form_kept custom_string (CustomStr pen t) (forms.Custom m b) x fits = rw (custom_long pen t, custom_pen pen t x.1, custom_rest pen t, string_is t x.3) refl
  form_kept custom_bytes (CustomBytes pen v) (forms.Custom m b) x fits = rw (custom_long pen v, custom_pen pen v x.1, custom_rest pen v) refl
  form_kept unknown (Unknown len v) (forms.Unknown m b) x fits = ap (λ (k : ℕ). Ok (Unknown k v)) (ap length (sym x.1) ∙ fits ∙ x.0)
  form_kept _ _ _ x fits = absurd x

-- An option was appended, part by part.
pub option_put : (order : Order) (write : Encoder) → IsCodec order write → (kind : Kind) (o : Entry) (code len : ℕ) (form : Form) → TellsCoded kind o (Some (code, form)) → MeasuresForm form (Ok len) → (old a b d new : List ℕ)
    → a ≡ old ++ write 2 code → b ≡ a ++ write 2 len → d ≡ b ++ form_bytes write form → new ≡ d ++ padding len → (new ≡ old ++ option_text write kind o) × IsFitOption order write kind o
option_put order write c kind o code len form told measured old a b d new code_put len_put form_put padded =
    let v = option_value write kind o in
    let text : form_bytes write form ≡ v = form_text write (shape_at kind o.code) o.value form told.3 in
    let long : length v ≡ len = ap length (sym text) ∙ measured.2 write c.wide in
    let is : new ≡ (((old ++ write 2 code) ++ write 2 len) ++ form_bytes write form) ++ padding len = padded ∙ ap (λ (s : List ℕ). s ++ padding len) (form_put ∙ ap (λ (s : List ℕ). s ++ form_bytes write form) (len_put ∙ ap (λ (s : List ℕ). s ++ write 2 len) code_put)) in
    let parts : (((old ++ write 2 code) ++ write 2 len) ++ form_bytes write form) ++ padding len ≡ old ++ (write 2 code ++ (write 2 len ++ (form_bytes write form ++ padding len))) = simp append_assoc in
    let said : old ++ (write 2 code ++ (write 2 len ++ (form_bytes write form ++ padding len))) ≡ old ++ option_text write kind o = rw (told.0, text, long) refl in (
      is ∙ parts ∙ said,
      record {
        code = told.2;
        no_mark = told.1;
        short = omega (arith, long, measured.1);
        kept = form_kept order write c (shape_at kind o.code) o.value form told.3 measured.0;
      },
    )
