-- In a known byte order, the bytes of a number are those that a program writes for its value.
use Rattle.std.proofs.Common.{◌≡◌, ℕ, ◌+◌, ◌<◌, ◌^◌, List, ◌++◌, length, sym, ap, subst, ◌∙◌, arith, inl, inr, get_or}
use Rattle.std.specs.Int.{w16, w32, from_be_bytes, from_le_bytes, to_be_bytes, to_le_bytes}
use Rattle.std.proofs.lemmas.Bool.{cases_lt}
use Rattle.std.proofs.lemmas.List.Elements.{All-get_or, All-from_get_or}
use Rattle.std.proofs.lemmas.List.{get_or_append_left, get_or_past, get_or-append-add}
use Rattle.std.proofs.lemmas.Nat.{be_bytes_2, be_bytes_4, le_bytes_2, le_bytes_4}
use Rattle.byteorder.specs.Endian.{big_number, little_number}
use Rattle.pcap_core.specs.declared.common.Endianness.{Endianness}
use Rattle.pcap_core.specs.declared.common.Endianness.TheVariants.{Big, Little}
use Rattle.pcap_core.specs.Answer.{Number, number_in}
use Rattle.pcap_core.specs.Bytes.{IsBytes}
use Rattle.pcap_core.specs.Codec.{number_bytes}

byte_at : (s : List ℕ) → IsBytes s → (i : ℕ) → get_or s i 0 < 256
byte_at s fits i =
    elim (cases_lt i (length s)) [
      | inl lt ↦ All-get_or (λ (byte : ℕ). byte < 256) s i 0 lt fits
      | inr le ↦ rw (get_or_past s i 0 le) (omega arith)
    ]

front_bytes : (a b : List ℕ) → IsBytes (a ++ b) → (i : ℕ) → get_or a i 0 < 256
front_bytes a b fits i =
    elim (cases_lt i (length a)) [
      | inl lt ↦ rw (← get_or_append_left a b 0 i lt) (byte_at (a ++ b) fits i)
      | inr le ↦ rw (get_or_past a i 0 le) (omega arith)
    ]

pub back_bytes : (a b : List ℕ) → IsBytes (a ++ b) → IsBytes b
back_bytes a b fits = All-from_get_or (λ (byte : ℕ). byte < 256) b 0 (λ i lt. rw (← get_or-append-add a b i 0) (byte_at (a ++ b) fits (length a + i)))

pub number_rest : (order : ℕ → List ℕ → ℕ) (w n : ℕ) (s rest : List ℕ) → IsBytes s → Number order w n s rest → IsBytes rest
number_rest order w n s rest fits p = back_bytes p.bytes rest (subst IsBytes p.text fits)

big_is : (bs : List ℕ) → big_number 4 bs ≡ from_be_bytes w32 bs
big_is bs = omega arith

little_is : (bs : List ℕ) → little_number 4 bs ≡ from_le_bytes w32 bs
little_is bs = omega arith

pub number_written : (e : Endianness) (n : ℕ) (s rest : List ℕ) → IsBytes s → Number (number_in e) 4 n s rest → s ≡ number_bytes e 4 n ++ rest
number_written Big n s rest fits p =
    let mine : to_be_bytes w32 n ≡ p.bytes = be_bytes_4 p.bytes n p.length_is (front_bytes p.bytes rest (subst IsBytes p.text fits)) (sym p.value ∙ big_is p.bytes) in
    p.text ∙ ap (λ (t : List ℕ). t ++ rest) (sym mine)
number_written Little n s rest fits p =
    let mine : to_le_bytes w32 n ≡ p.bytes = le_bytes_4 p.bytes n p.length_is (front_bytes p.bytes rest (subst IsBytes p.text fits)) (sym p.value ∙ little_is p.bytes) in
    p.text ∙ ap (λ (t : List ℕ). t ++ rest) (sym mine)

big_is_2 : (bs : List ℕ) → big_number 2 bs ≡ from_be_bytes w16 bs
big_is_2 bs = omega arith

little_is_2 : (bs : List ℕ) → little_number 2 bs ≡ from_le_bytes w16 bs
little_is_2 bs = omega arith

pub short_written : (e : Endianness) (n : ℕ) (s rest : List ℕ) → IsBytes s → Number (number_in e) 2 n s rest → s ≡ number_bytes e 2 n ++ rest
short_written Big n s rest fits p =
    let mine : to_be_bytes w16 n ≡ p.bytes = be_bytes_2 p.bytes n p.length_is (front_bytes p.bytes rest (subst IsBytes p.text fits)) (sym p.value ∙ big_is_2 p.bytes) in
    p.text ∙ ap (λ (t : List ℕ). t ++ rest) (sym mine)
short_written Little n s rest fits p =
    let mine : to_le_bytes w16 n ≡ p.bytes = le_bytes_2 p.bytes n p.length_is (front_bytes p.bytes rest (subst IsBytes p.text fits)) (sym p.value ∙ little_is_2 p.bytes) in
    p.text ∙ ap (λ (t : List ℕ). t ++ rest) (sym mine)

pub number_below : (e : Endianness) (n : ℕ) (s rest : List ℕ) → IsBytes s → Number (number_in e) 4 n s rest → n < 2 ^ 32
number_below Big n s rest fits p =
    let f = front_bytes p.bytes rest (subst IsBytes p.text fits) in
    rw (← p.value) (omega (arith, f 0, f 1, f 2, f 3))
number_below Little n s rest fits p =
    let f = front_bytes p.bytes rest (subst IsBytes p.text fits) in
    rw (← p.value) (omega (arith, f 0, f 1, f 2, f 3))
