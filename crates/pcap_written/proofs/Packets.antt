-- Packets that are written without memory.
use Rattle.std.proofs.Common.{◌≡◌, ℕ, ◌<◌, ◌≤◌, ◌+◌, ◌-◌, ◌/◌, ◌%◌, ◌^◌, List, [], ◌∷◌, ◌++◌, length, take, drop, refl, sym, ap, subst, ◌∙◌, append_assoc, append-nil, length-append, arith, zero, suc, Option, Result, Ok, Err}
use Rattle.std.specs.Prelude.{false, true, MatchResult}
use Rattle.std.proofs.lemmas.List.{length-drop, length-take-le, take_all}
use Rattle.std.proofs.lemmas.Option.{same_Some}
use Rattle.pcap_core.specs.declared.common.Endianness.{Endianness}
use Rattle.pcap_core.specs.declared.errors.PcapError.{PcapError}
use Rattle.pcap_core.specs.declared.errors.PcapError.TheVariants as errors
use Rattle.pcap_core.specs.Codec.{Encoder, number_bytes}
use Rattle.pcap_core.specs.Padded.{up_to_4}
use Rattle.pcap_core.proofs.Codec.{codec}
use Rattle.pcap_items.specs.Writing.{WritesAll}
use Rattle.pcap_items.proofs.Writing.{first_fails, second_ends}
use Rattle.std.specs.Io.KnownBytes.{Appends}
use Rattle.pcap_blocks.specs.ParsedBlock.{Body, EnhancedBody}
use Rattle.pcap_written.specs.declared.unwritable.Unwritable.{Unwritable}
use Rattle.pcap_written.specs.declared.unwritable.Unput.TheVariants.{Unfit}
use Rattle.pcap_written.specs.declared.place.Place.{Place}
use Rattle.pcap_written.specs.declared.writer.PcapNgWriter.{PcapNgWriter}
use Rattle.pcap_written.specs.Text.{padding}
use Rattle.pcap_written.specs.Bodies.{enhanced_text, head_of, text_of}
use Rattle.pcap_written.specs.Plain.{plain_head, plain_packet}
use Rattle.pcap_written.specs.Puts.{IsShownAs}
use Rattle.pcap_written.specs.Writing.{BlockFlaw, IsFitIn, IsKept, TellsPlace, WritesBlock, has_failed, place_of, stream_of}

-- Dropping all but m of three zero bytes leaves m zero bytes.
pub tail_left : (m : ℕ) (w : List ℕ) → m ≤ 3 → drop (3 - m) (0 ∷ 0 ∷ 0 ∷ w) ≡ take m (0 ∷ 0 ∷ 0 ∷ []) ++ w
tail_left zero w few = refl
tail_left (suc zero) w few = refl
tail_left (suc (suc zero)) w few = refl
tail_left (suc (suc (suc zero))) w few = refl
tail_left (suc (suc (suc (suc m)))) w few = absurd (omega (arith, few))

module _ (write : Encoder) (wide : (w n : ℕ) → length (write w n) ≡ w) (id time original : ℕ) (bytes : List ℕ) where
  -- The length of the body.
  pub plain_length : length (enhanced_text write (plain_packet id time original bytes)) ≡ 20 + up_to_4 (length bytes)
  plain_length =
      let high = write 4 (time / 2 ^ 32) in
      let low = write 4 (time % 2 ^ 32) in
      let captured = write 4 (length bytes) in
      let few : up_to_4 (length bytes) - length bytes ≤ 3 = omega arith in
      let padded : length (padding (length bytes)) ≡ up_to_4 (length bytes) - length bytes = length-take-le (up_to_4 (length bytes) - length bytes) (0 ∷ 0 ∷ 0 ∷ []) few in
      omega (
        arith,
        padded,
        length-append (write 4 id) (((high ++ low) ++ (captured ++ write 4 original)) ++ ((bytes ++ padding (length bytes)) ++ [])),
        length-append ((high ++ low) ++ (captured ++ write 4 original)) ((bytes ++ padding (length bytes)) ++ []),
        length-append (high ++ low) (captured ++ write 4 original),
        length-append high low,
        length-append captured (write 4 original),
        length-append (bytes ++ padding (length bytes)) [],
        length-append bytes (padding (length bytes)),
        wide 4 id,
        wide 4 (time / 2 ^ 32),
        wide 4 (time % 2 ^ 32),
        wide 4 (length bytes),
        wide 4 original,
      )

  -- The text of the block in three parts.
  pub plain_text : (len : ℕ) → len ≡ up_to_4 (length bytes) + 32
      → (plain_head write len id (time / 2 ^ 32) (time % 2 ^ 32) (length bytes) original ++ bytes) ++ (padding (length bytes) ++ write 4 len) ≡ text_of write (EnhancedBody (plain_packet id time original bytes))
  plain_text len is =
      let all : len ≡ length (enhanced_text write (plain_packet id time original bytes)) + 12 = omega (arith, is, plain_length) in
      rw (sym all) (simp (append_assoc, append-nil))

-- A packet in three writes, up to the one that fails: the bytes before its data, its data, and then its padding and the length. The
-- padding and the length are computed as the program does.
module _ (write : Encoder) (wide : (w n : ℕ) → length (write w n) ≡ w) (id time original : ℕ) (bytes front : List ℕ) (a b c d : Option (List ℕ)) where
  abbrev missing : ℕ
  missing = (4 - length bytes % 4) % 4

  abbrev len : ℕ
  len = length bytes + missing + 32

  abbrev head : List ℕ
  head = plain_head write len id (time / 2 ^ 32) (time % 2 ^ 32) (length bytes) original

  abbrev tail : List ℕ
  tail = padding (length bytes) ++ write 4 len

  abbrev text : List ℕ
  text = text_of write (EnhancedBody (plain_packet id time original bytes))

  whole_is : (head ++ bytes) ++ tail ≡ text
  whole_is = plain_text write wide id time original bytes len (omega arith)

  pub first_tears : (e : PcapError) → front ≡ head → WritesAll a b front (Err e) → WritesAll a b text (Err e)
  first_tears e is out =
      subst (λ (t : List ℕ). WritesAll a b t (Err e)) (ap (λ (t : List ℕ). t ++ (bytes ++ tail)) is ∙ sym (append_assoc head bytes tail) ∙ whole_is) (first_fails front (bytes ++ tail) a b e out)

  pub second_tears : (e : PcapError) → front ≡ head → Appends a b front → WritesAll b c bytes (Err e) → WritesAll a c text (Err e)
  second_tears e is went out =
      subst (λ (t : List ℕ). WritesAll a c t (Err e)) (ap (λ (t : List ℕ). (t ++ bytes) ++ tail) is ∙ whole_is) (first_fails (front ++ bytes) tail a c e (second_ends front bytes a b c (Err e) went out))

  tail_is : (zeros : List ℕ) → zeros ≡ 0 ∷ 0 ∷ 0 ∷ write 4 len → take (7 - (3 - missing)) (drop (3 - missing) zeros) ≡ tail
  tail_is zeros made =
      let few : missing ≤ 3 = omega arith in
      let some : missing ≡ up_to_4 (length bytes) - length bytes = omega arith in
      let long : length zeros ≡ 7 = omega (arith, ap length made, wide 4 len) in
      take_all (7 - (3 - missing)) (drop (3 - missing) zeros) (omega (arith, long, length-drop (3 - missing) zeros)) ∙ ap (drop (3 - missing)) made ∙ tail_left missing (write 4 len) few
      ∙ ap (λ (k : ℕ). take k (0 ∷ 0 ∷ 0 ∷ []) ++ write 4 len) some

  pub third_ends : (result : Result (Unit {0}) PcapError) (zeros : List ℕ) → front ≡ head → zeros ≡ 0 ∷ 0 ∷ 0 ∷ write 4 len → Appends a b front → Appends b c bytes → WritesAll c d (take (7 - (3 - missing)) (drop (3 - missing) zeros)) result → WritesAll a d text result
  third_ends result zeros is made went there out =
      let last = take (7 - (3 - missing)) (drop (3 - missing) zeros) in
      let parts : (front ++ bytes) ++ last ≡ text = ap (λ (t : List ℕ). (front ++ bytes) ++ t) (tail_is zeros made) ∙ ap (λ (t : List ℕ). (t ++ bytes) ++ tail) is ∙ whole_is in
      subst (λ (t : List ℕ). WritesAll a d t result) parts (second_ends (front ++ bytes) last a c d result (second_ends front bytes a b c (Ok tt) went there) out)

-- The error of a block that can't be written here is returned, and nothing is written.
pub refused_here : {W : Type 0} (contents : W → Option (List ℕ)) (w : PcapNgWriter W) (body : Body) (flaw : Unwritable) → has_failed w ≡ false → IsKept contents w w → BlockFlaw (place_of w) body flaw
    → (shown : PcapError) → IsShownAs (Unfit flaw) shown → WritesBlock contents w w body (Err shown)
refused_here contents w body flaw good kept stands (errors.InvalidField message) is = (good, (kept, (flaw, is, stands)))
refused_here contents w body flaw good kept stands _ is = absurd is

-- A block that doesn't change the place was written, or a beginning of it.
pub went_out : {W : Type 0} (contents : W → Option (List ℕ)) (old new : PcapNgWriter W) (body : Body) → has_failed old ≡ false → place_of new ≡ place_of old → TellsPlace (place_of old) (head_of body) (Ok (place_of old)) → IsFitIn (place_of old).endianness body
    → (result : Result (Unit {0}) PcapError) → WritesAll (contents (stream_of old)) (contents (stream_of new)) (text_of (number_bytes (place_of old).endianness) body) result
    → MatchResult result (λ _. has_failed new ≡ has_failed old) (λ _. has_failed new ≡ true) → WritesBlock contents old new body result
went_out contents old new body good same placed fit (Ok u) out told = (
  good,
  (
    told ∙ good,
    subst (λ (p : Place). TellsPlace (place_of old) (head_of body) (Ok p)) (sym same) placed,
    subst (λ (p : Place). IsFitIn p.endianness body) (sym same) fit,
    subst (λ (p : Place). Appends (contents (stream_of old)) (contents (stream_of new)) (text_of (number_bytes p.endianness) body)) (sym same) out,
  ),
)
went_out contents old new body good same placed fit (Err (errors.IoError e)) out told = (good, (told, same, ((place_of old).endianness, record { placed = placed.0; fit = fit }, out)))
went_out contents old new body good same placed fit (Err _) out told = absurd out

-- An enhanced packet of a described interface doesn't change the place.
pub packet_placed : (at : Place) (id time original : ℕ) (bytes : List ℕ) → id < at.interfaces → at.interfaces < 2 ^ 32 → TellsPlace at (head_of (EnhancedBody (plain_packet id time original bytes))) (Ok at)
packet_placed at id time original bytes known room = (record { named = refl; known = λ other is. subst (λ (n : ℕ). n < at.interfaces) (same_Some id other is) known; room = room }, refl)

-- Such a packet can be written if its data is short enough.
pub packet_fit : (e : Endianness) (id time original : ℕ) (bytes : List ℕ) → id < 2 ^ 32 → time < 2 ^ 64 → original < 2 ^ 32 → length bytes ≤ 4294967260 → IsFitIn e (EnhancedBody (plain_packet id time original bytes))
packet_fit e id time original bytes interface fits wire short = record {
  fit = record {
    interface = interface;
    packet = record { time = fits; captured = refl; captured_fits = omega (arith, short); original_fits = wire; options = λ k d lt. absurd (omega (arith, lt)) };
  };
  short = omega (arith, short, plain_length (number_bytes e) (codec e).wide id time original bytes);
}
