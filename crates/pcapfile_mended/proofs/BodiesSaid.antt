-- Lemmas for mending a block: the verdicts of strict reading on its body, and the lengths of bodies.
use Rattle.std.proofs.Common.{◌≡◌, ◌≢◌, ◌≤◌, ◌<◌, ℕ, List, [], ◌∷◌, ◌++◌, length, take, drop, Bool, true, false, Option, Some, Result, Ok, Err, IfOk, refl, sym, ap, subst, ◌∙◌, arith, inl, inr, length-append}
use Rattle.std.specs.Prelude.{filter, replicate, not, Decides}
use Rattle.std.specs.List.{flat_map}
use Rattle.std.specs.Cmp.Lexicographic.{pointwise}
use Rattle.std.proofs.Math.Dec.{eqb}
use Rattle.std.proofs.lemmas.Bool.{cases_lt}
use Rattle.std.proofs.lemmas.Bool.Decides.{Decides-eqb}
use Rattle.std.proofs.lemmas.Slice.Eq.{slice_eq-Decides}
use Rattle.std.proofs.lemmas.List.{drop-drop, length-drop, length-replicate, length-take, take-append-drop}
use Rattle.pcap_core.specs.declared.common.Endianness.{Endianness}
use Rattle.pcap_core.specs.Answer.{Order, whole, number_in}
use Rattle.pcap_core.proofs.Texts.{number_length, split_same}
use Rattle.pcap_blocks.specs.declared.block_type.BlockType.{BlockType}
use Rattle.pcap_blocks.specs.declared.block_type.BlockType.TheVariants as types
use Rattle.pcap_blocks.specs.ParsedBlock.{Body, BodySays}
use Rattle.pcap_blocks.specs.SectionHeader.{Section, SectionText}
use Rattle.pcap_options.specs.Values.{Kind}
use Rattle.pcap_written.specs.Raw.{Raw, raw_text}
use Rattle.pcap_tolerant_blocks.specs.declared.sound.OptionsOf.{OptionsOf}
use Rattle.pcap_tolerant_blocks.specs.declared.sound.OptionsOf.TheVariants as kinds
use Rattle.pcap_tolerant_blocks.specs.SoundOptions.{Piece, SoundOptions, is_sound, kind_of, text_in}
use Rattle.pcapfile_mended.specs.declared.mending.Mended.{Mended}
use Rattle.pcapfile_mended.specs.declared.mending.Mended.TheVariants as shown
use Rattle.pcapfile_mended.specs.Mended.{stays, has_body, is_left_out, sound, lost, IsMended, IsStated, IsTaken, Mends, OptionsAt, front_length, options_in, unstated, with_body, with_options}

section_long : (section : Section) (s rest : List ℕ) → SectionText section s rest → 16 ≤ length s
section_long section s rest x =
    let order = number_in x.endianness in
    let v = x.after.version in
    omega (
      arith,
      number_length _ 4 section.magic s x.after_magic x.magic_is,
      number_length order 2 section.major_version x.after_magic v.after_major v.major,
      number_length order 2 section.minor_version v.after_major v.after_minor v.minor,
      number_length order 8 v.length_bits v.after_minor x.after.after_version v.length_number,
    )

-- A section that strict reading takes has room for its length.
pub sound_section_long : (type : BlockType) (order : Order) (s : List ℕ) (body : Body) (rest : List ℕ) → BodySays order type s (whole body rest) → type ≡ types.SectionHeader → 16 ≤ length s
sound_section_long type order s body rest x is =
    let says = subst (λ (t : BlockType). BodySays order t s (whole body rest)) is x in
    section_long says.0 s rest says.2

-- An interface without room for options is too short for its fixed fields.
pub short_interface : (raw : Raw) → ((of : OptionsOf) (order : Endianness) → OptionsAt raw of order → ⊥) → raw.type_ ≡ types.InterfaceDescription → length raw.body < 8
short_interface raw none is =
    elim (cases_lt (length raw.body) 8) [
      | inl lt ↦ lt
      | inr long ↦ absurd (none kinds.Interface raw.endianness (record { of_type = rw is refl; named = rw is refl; room = long }))
    ]

one_no_longer : (piece : Piece) (pieces : List Piece) (sound : Bool) → is_sound piece ≡ sound → length (flat_map text_in (filter is_sound pieces)) ≤ length (flat_map text_in pieces)
    → length (flat_map text_in (filter is_sound (piece ∷ pieces))) ≤ length (flat_map text_in (piece ∷ pieces))
one_no_longer piece pieces true e le = rw e (omega (arith, length-append piece.text (flat_map text_in (filter is_sound pieces)), length-append piece.text (flat_map text_in pieces)))
one_no_longer piece pieces false e le = rw e (omega (arith, length-append piece.text (flat_map text_in pieces)))

pieces_no_longer : (pieces : List Piece) → length (flat_map text_in (filter is_sound pieces)) ≤ length (flat_map text_in pieces)
pieces_no_longer [] = omega arith
pieces_no_longer (piece ∷ pieces) = one_no_longer piece pieces (is_sound piece) refl (pieces_no_longer pieces)

-- The sound options take no more bytes than all options.
pub kept_no_longer : (order : Order) (kind : Kind) (s kept : List ℕ) → SoundOptions order kind s kept → length kept ≤ length s
kept_no_longer order kind s kept x =
    omega (arith, ap length x.kept_are, pieces_no_longer x.pieces, ap length x.text, length-append (flat_map text_in x.pieces) x.stop)

-- ---- the length of a section

parted : (s : List ℕ) → take 8 s ++ (take 8 (drop 8 s) ++ drop 16 s) ≡ s
parted s =
    let behind : take 8 (drop 8 s) ++ drop 16 s ≡ drop 8 s = ap (λ (t : List ℕ). take 8 (drop 8 s) ++ t) (sym (drop-drop 8 8 s)) ∙ take-append-drop 8 (drop 8 s) in
    ap (λ (t : List ℕ). take 8 s ++ t) behind ∙ take-append-drop 8 s

length_there : (s : List ℕ) → 16 ≤ length s → length (take 8 (drop 8 s)) ≡ 8
length_there s long = omega (arith, length-take 8 (drop 8 s), length-drop 8 s)

-- A section that doesn't state its length is the same without it.
unstated_same : (s : List ℕ) → take 8 (drop 8 s) ≡ replicate 8 255 → unstated types.SectionHeader s ≡ s
unstated_same s e = ap (λ (t : List ℕ). take 8 s ++ (t ++ drop 16 s)) (sym e) ∙ parted s

unstated_other : (s : List ℕ) → 16 ≤ length s → unstated types.SectionHeader s ≡ s → take 8 (drop 8 s) ≡ replicate 8 255
unstated_other s long e =
    let behind = split_same (take 8 s) (replicate 8 255 ++ drop 16 s) (take 8 s) (take 8 (drop 8 s) ++ drop 16 s) refl (e ∙ sym (parted s)) in
    sym (split_same (replicate 8 255) (drop 16 s) (take 8 (drop 8 s)) (drop 16 s) (sym (length_there s long)) behind.1).0

stated_as : (type : BlockType) (s : List ℕ) (b same : Bool) → type ≡ types.SectionHeader → 16 ≤ length s → b ≡ not same → Decides same (take 8 (drop 8 s) ≡ replicate 8 255) → IsStated b type s
stated_as type s b true is long e decides = rw (e, is) (unstated_same s (decides.0 refl))
stated_as type s b false is long e decides = rw (e, is) (λ same. let is_true = decides.1 (unstated_other s long same) in absurd cc)

-- Comparing the bytes of the length with those of -1 shows whether the section states its length.
pub stated_told : (type : BlockType) (s none : List ℕ) (b : Bool) → type ≡ types.SectionHeader → 16 ≤ length s → none ≡ replicate 8 255 → b ≡ not (pointwise eqb (take 8 (drop 8 s)) none) → IsStated b type s
stated_told type s none b is long none_is e =
    let same = pointwise eqb (take 8 (drop 8 s)) none in
    let decides = slice_eq-Decides Decides-eqb (take 8 (drop 8 s)) none same refl in
    stated_as type s b same is long e (subst (λ (t : List ℕ). Decides same (take 8 (drop 8 s) ≡ t)) none_is decides)

-- A body has as many bytes without a section's length.
pub unstated_length : (type : BlockType) (s : List ℕ) → (type ≡ types.SectionHeader → 16 ≤ length s) → length (unstated type s) ≡ length s
unstated_length types.SectionHeader s long =
    let there = long refl in
    omega (arith, length-append (take 8 s) (replicate 8 255 ++ drop 16 s), length-append (replicate 8 255) (drop 16 s), length-replicate {A = ℕ} 8 255, length-take 8 s, length-drop 16 s)
unstated_length _ s long = refl

-- ---- the bytes before options

of_section : (of : OptionsOf) → ◌≡◌ {A = Option OptionsOf} (Some kinds.Section) (Some of) → (order : Order) (s : List ℕ) → front_length of order s ≡ 16
of_section of e order s = let is : kinds.Section ≡ of = cc in rw (← is) refl

-- The bytes before a section's options have room for its length.
pub section_front : (raw : Raw) (of : OptionsOf) (order : Endianness) → OptionsAt raw of order → raw.type_ ≡ types.SectionHeader → 16 ≤ length (take (front_length of (number_in order) raw.body) raw.body)
section_front raw of order at is =
    let of_type : ◌≡◌ {A = Option OptionsOf} (Some kinds.Section) (Some of) = rw is at at.of_type in
    let n = of_section of of_type (number_in order) raw.body in
    omega (arith, at.room, n, length-take (front_length of (number_in order) raw.body) raw.body)

-- The same holds if these bytes were split off.
pub before_options : (raw : Raw) (of : OptionsOf) (order : Endianness) (n : ℕ) (before : List ℕ) → OptionsAt raw of order → n ≡ front_length of (number_in order) raw.body → before ≡ take n raw.body → raw.type_ ≡ types.SectionHeader → 16 ≤ length before
before_options raw of order n before at n_is is section = rw (is, n_is) (section_front raw of order at section)

-- A body with its sound options only is no longer than it was.
pub with_options_length : (raw : Raw) (of : OptionsOf) (order : Endianness) (kept : List ℕ) → OptionsAt raw of order → SoundOptions (number_in order) (kind_of of) (options_in raw of order) kept
    → length (with_options raw of order kept) ≤ length raw.body
with_options_length raw of order kept at x =
    let n = front_length of (number_in order) raw.body in
    let before = take n raw.body in
    omega (
      arith,
      at.room,
      length-append (unstated raw.type_ before) kept,
      unstated_length raw.type_ before (section_front raw of order at),
      kept_no_longer (number_in order) (kind_of of) (options_in raw of order) kept x,
      length-take n raw.body,
      length-drop n raw.body,
    )

-- The body written after a split before its options has the sound options only.
pub put_body : (raw : Raw) (of : OptionsOf) (order : Endianness) (n : ℕ) (before after put kept body : List ℕ) → n ≡ front_length of (number_in order) raw.body → before ≡ take n raw.body → after ≡ drop n raw.body
    → put ≡ unstated raw.type_ before → SoundOptions (number_in order) (kind_of of) after kept → body ≡ put ++ kept
    → (body ≡ with_options raw of order kept) × SoundOptions (number_in order) (kind_of of) (options_in raw of order) kept
put_body raw of order n before after put kept body n_is before_is after_is put_is are body_is = (
  body_is ∙ ap (λ (t : List ℕ). t ++ kept) (put_is ∙ ap (unstated raw.type_) (before_is ∙ ap (λ (k : ℕ). take k raw.body) n_is)),
  subst (λ (t : List ℕ). SoundOptions (number_in order) (kind_of of) t kept) (after_is ∙ ap (λ (k : ℕ). drop k raw.body) n_is) are,
)

-- ---- the reported result

changed_as : {E : Type 0} (raw : Raw) (s text : List ℕ) (r : Result Mended E) → Mends raw (has_body s) → IfOk r (λ mended. (mended ≡ shown.Changed) × (text ≡ raw_text (with_body raw s))) → IfOk r (λ mended. IsMended raw mended text)
changed_as raw s text (Ok mended) mends x = record { becomes = has_body s; mends = mends; told_so = x.0; text_is = x.1 }
changed_as raw s text (Err e) mends x = x

-- A block with another body is a result of mending.
pub changed : {E : Type 0} (raw : Raw) (s body text : List ℕ) (r : Result Mended E) → body ≡ s → Mends raw (has_body s) → IfOk r (λ mended. (mended ≡ shown.Changed) × (text ≡ raw_text (with_body raw body))) → IfOk r (λ mended. IsMended raw mended text)
changed raw s body text r is mends x = changed_as raw s text r mends (subst (λ (t : List ℕ). IfOk r (λ mended. (mended ≡ shown.Changed) × (text ≡ raw_text (with_body raw t)))) is x)

-- An unchanged block is a result of mending.
pub stayed : (raw : Raw) (text : List ℕ) → IsTaken (number_in raw.endianness) raw.type_ raw.body true → unstated raw.type_ raw.body ≡ raw.body → text ≡ raw_text raw → IsMended raw shown.Stays text
stayed raw text taken same is = record { becomes = stays; mends = sound taken.0 taken.1 taken.2 same; told_so = refl; text_is = is }

-- A block that is left out is a result of mending.
pub left_out : (raw : Raw) (text : List ℕ) → IsTaken (number_in raw.endianness) raw.type_ raw.body false → ((of : OptionsOf) (order : Endianness) → OptionsAt raw of order → ⊥) → raw.type_ ≢ types.InterfaceDescription → text ≡ [] → IsMended raw shown.LeftOut text
left_out raw text refused none other is = record { becomes = is_left_out; mends = lost refused.0 refused.1 none other; told_so = refl; text_is = is }
