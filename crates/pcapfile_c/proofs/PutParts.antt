-- Blocks and lists of options, in the parts in which they are written.
use Rattle.std.proofs.Common.{◌≡◌, ℕ, ℤ, ◌+◌, ◌-◌, ◌<◌, ◌≤◌, List, [], ◌∷◌, ◌++◌, length, take, drop, refl, sym, ap, subst, ◌∙◌, append_assoc, append-nil, length-append, arith, get_or, take-append-drop, inl, inr, pos, w32, to_z, of_z}
use Rattle.std.specs.Prelude.{Bool, true, false, All, Any, IsTrue}
use Rattle.std.specs.List.{flat_map}
use Rattle.std.proofs.lemmas.Grind.{flat_map-append}
use Rattle.std.proofs.lemmas.List.{take_more, take_at, drop_at, length-take-le, length-drop}
use Rattle.std.proofs.lemmas.List.Concat.{flat_map-cons}
use Rattle.pcap_core.specs.Codec.{Encoder}
use Rattle.pcap_core.specs.Padded.{up_to_4}
use Rattle.pcapfile_values.specs.BlockTexts.{PutsAt}
use Rattle.pcap_written.specs.Text.{end_mark, padding, padded_bytes}
use Rattle.pcapfile_c.specs.declared.options.PcapfileOption.{PcapfileOption}
use Rattle.pcapfile_values.specs.declared.errors.PcapfileError.{PcapfileError}
use Rattle.pcapfile_c.specs.declared.parts.Parts.{Parts}
use Rattle.pcapfile_values.specs.declared.reasons.Reason.TheVariants.{BlockTooLong}
use Rattle.pcapfile_values.specs.Reasons.{IsRefused}
use Rattle.pcap_written.specs.Bodies.{block_text}
use Rattle.pcapfile_c.specs.Readers.{Writer, writer}
use Rattle.pcapfile_c.specs.Rooms.{BeginsWith}
use Rattle.pcapfile_c.specs.PutParts.{PutsText, each_bytes, option_bytes, parts_body, parts_text, tail_bytes}

-- What stands for an option where a list has none.
abbrev pub no_option : PcapfileOption
no_option = record { code = 0; value = record { ref_ptr = (0, 0); now = [] } }

-- Nothing was written.
pub puts_none : (at : ℕ) (room : List ℕ) → at ≤ length room → PutsAt at [] room room
puts_none at room within = record { within = omega (arith, within); is = sym (ap (λ (n : ℕ). take at room ++ drop n room) (omega arith) ∙ take-append-drop at room) }

-- The bytes of the first items and one more.
pub more_bytes : {O : Type 0} (f : O → List ℕ) (items : List O) (i : ℕ) (d : O) → i < length items
    → flat_map f (take (i + 1) items) ≡ flat_map f (take i items) ++ f (get_or items i d)
more_bytes f items i d lt =
    let o = get_or items i d in
    ap (flat_map f) (take_more items i d lt) ∙ flat_map-append f (take i items) (o ∷ [])
    ∙ ap (λ (l : List ℕ). flat_map f (take i items) ++ l) (flat_map-cons f o [] ∙ append-nil (f o))

pub padding_long : (n : ℕ) → n + length (padding n) ≡ up_to_4 n
padding_long n =
    let few : up_to_4 n - n ≤ 3 = omega arith in
    let long : length (padding n) ≡ up_to_4 n - n = length-take-le (up_to_4 n - n) (0 ∷ 0 ∷ 0 ∷ []) few in
    omega (arith, long)

pub padded_long : (v : List ℕ) → length (padded_bytes v) ≡ up_to_4 (length v)
padded_long v = length-append v (padding (length v)) ∙ padding_long (length v)

regrouped : (type len head padded tail : List ℕ) → type ++ (len ++ (head ++ (padded ++ (tail ++ len)))) ≡ type ++ (len ++ ((head ++ (padded ++ tail)) ++ len))
regrouped type len head padded tail = simp append_assoc

module _ (write : Encoder) (wide : (w n : ℕ) → length (write w n) ≡ w) where
  pub option_long : (o : PcapfileOption) → length (option_bytes write o) ≡ up_to_4 (length o.value.now) + 4
  option_long o =
      let len = write 2 (length o.value.now) in
      let padded = padded_bytes o.value.now in
      omega (arith, length-append (write 2 o.code) (len ++ padded), length-append len padded, wide 2 o.code, wide 2 (length o.value.now), padded_long o.value.now)

  pub body_long : (p : Parts) → length (parts_body write p) ≡ length p.head.now + (up_to_4 (length p.data_.now) + length (tail_bytes write p.clocked p.options.now))
  body_long p =
      let padded = padded_bytes p.data_.now in
      let tail = tail_bytes write p.clocked p.options.now in
      omega (arith, length-append p.head.now (padded ++ tail), length-append padded tail, padded_long p.data_.now)

  pub text_long : (p : Parts) → length (parts_text write p) ≡ length (parts_body write p) + 12
  text_long p =
      let body = parts_body write p in
      let len = write 4 (length body + 12) in
      omega (arith, length-append (write 4 p.type_) (len ++ (body ++ len)), length-append len (body ++ len), length-append body len, wide 4 p.type_, wide 4 (length body + 12))

  pub marked_long : (clocked : Bool) (os : List PcapfileOption) → tail_bytes write clocked os ≡ each_bytes write os ++ end_mark write → length (tail_bytes write clocked os) ≡ length (each_bytes write os) + 4
  marked_long clocked os is = omega (arith, ap length is, length-append (each_bytes write os) (end_mark write), length-append (write 2 0) (write 2 0), wide 2 0)

  -- Each list has at most its options and a mark.
  pub listed_long : (clocked : Bool) (os : List PcapfileOption) → (length os ≡ 0 → ⊥) → length (tail_bytes write clocked os) ≡ length (each_bytes write os) + 4
  listed_long true os some = marked_long true os refl
  listed_long false [] some = absurd (some refl)
  listed_long false (o ∷ os) some = marked_long false (o ∷ os) refl

  -- A block in the parts in which it is written.
  pub block_parts : (p : Parts) (len : ℕ) → len ≡ length (parts_body write p) + 12
      → write 4 p.type_ ++ (write 4 len ++ (p.head.now ++ (padded_bytes p.data_.now ++ (tail_bytes write p.clocked p.options.now ++ write 4 len)))) ≡ parts_text write p
  block_parts p len is = rw is (regrouped (write 4 p.type_) (write 4 (length (parts_body write p) + 12)) p.head.now (padded_bytes p.data_.now) (tail_bytes write p.clocked p.options.now))

-- A room begins with a text that was written at its front.
pub begins : {text room now : List ℕ} → (n : ℕ) → n ≡ length text → PutsAt 0 text room now → BeginsWith text room now n
begins {text = text} {room = room} {now = now} n long p = record {
  long = long;
  front = ap (take n) p.is ∙ take_at text (drop (0 + length text) room) n (sym long);
  others = ap (drop n) p.is ∙ drop_at text (drop (0 + length text) room) n (sym long) ∙ ap (λ (k : ℕ). drop k room) (omega (arith, long));
}

-- The results of writing a text.
module _ (Fits Unlisted TooLong : Type 0) (text room : List ℕ) (before : ℕ) (error : PcapfileError) where
  pub text_whole : (now : List ℕ) (n : ℕ) → Fits → n ≡ length text → PutsAt 0 text room now → PutsText Fits Unlisted TooLong text (writer room before error) (writer now n error) (pos 0)
  text_whole now n fits long put = inl (refl, refl, fits, begins n long put)

  pub text_needs : (n : ℕ) (told : PcapfileError) (status : ℤ) → Fits → n ≡ length text → length room < n → told.rule ≡ 0 → told.missing ≡ n - length room → status ≡ pos 9
      → PutsText Fits Unlisted TooLong text (writer room before error) (writer room before told) (to_z w32 (of_z w32 status))
  text_needs n told status fits long few rule missing said =
      inr (refl, refl, inl (ap (λ (z : ℤ). to_z w32 (of_z w32 z)) said, fits, record { no_rule = rule; some = omega (arith, few, missing); together = omega (arith, few, missing, long) }))

  pub text_refused : (told : PcapfileError) (status : ℤ) → TooLong → IsRefused BlockTooLong told status → PutsText Fits Unlisted TooLong text (writer room before error) (writer room before told) (to_z w32 (of_z w32 status))
  text_refused told status long refused =
      inr (refl, refl, inr (inl (long, record { status_is = ap (λ (z : ℤ). to_z w32 (of_z w32 z)) refused.status_is; rule_is = refused.rule_is; none_missing = refused.none_missing })))

  pub text_unlisted : Unlisted → PutsText Fits Unlisted TooLong text (writer room before error) (writer room before error) (pos 10)
  text_unlisted unfit = inr (refl, refl, inr (inr (refl, refl, unfit)))

-- The status of a call that returns what another one returned.
pub text_same : (Fits Unlisted TooLong : Type 0) (text : List ℕ) (old new : Writer) (z : ℤ) → PutsText Fits Unlisted TooLong text old new z → PutsText Fits Unlisted TooLong text old new (to_z w32 (of_z w32 z))
text_same Fits Unlisted TooLong text old new z (inl x) = inl (ap (λ (k : ℤ). to_z w32 (of_z w32 k)) x.0, x.1, x.2, x.3)
text_same Fits Unlisted TooLong text old new z (inr (room, written, inl x)) = inr (room, written, inl (ap (λ (k : ℤ). to_z w32 (of_z w32 k)) x.0, x.1, x.2))
text_same Fits Unlisted TooLong text old new z (inr (room, written, inr (inl x))) =
    inr (room, written, inr (inl (x.0, record { status_is = ap (λ (k : ℤ). to_z w32 (of_z w32 k)) x.1.status_is; rule_is = x.1.rule_is; none_missing = x.1.none_missing })))
text_same Fits Unlisted TooLong text old new z (inr (room, written, inr (inr x))) = inr (room, written, inr (inr (ap (λ (k : ℤ). to_z w32 (of_z w32 k)) x.0, x.1, x.2)))
