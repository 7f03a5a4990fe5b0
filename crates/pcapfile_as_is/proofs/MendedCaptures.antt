-- This file proves that strict reading accepts the bytes of mended blocks, in order, as a whole capture.
use Rattle.std.proofs.Common.{◌≡◌, ◌≢◌, ◌≤◌, ◌<◌, ◌-◌, ◌%◌, ◌^◌, ℕ, List, [], ◌∷◌, ◌++◌, length, take, drop, Bool, true, false, refl, sym, ap, subst, ◌∙◌, arith, rules, length-append}
use Rattle.std.specs.Prelude.{⊤, ◌==◌, All, filter, flat_map, filter_map, map, replicate, Option, Some, None}
use Rattle.std.specs.List.{cons_option}
use Rattle.std.proofs.lemmas.Bool.{ne_eqb}
use Rattle.std.proofs.lemmas.List.Elements.{All-head, All-tail}
use Rattle.std.proofs.lemmas.List.{length-replicate, length-take, take-append-le, take-take, take_at}
use Rattle.byteorder.specs.Endian.{big_number}
use Rattle.pcap_core.specs.declared.common.Endianness.{Endianness}
use Rattle.pcap_core.specs.Answer.{Order, Number, number_in, whole}
use Rattle.pcap_core.specs.Bytes.{IsBytes}
use Rattle.pcap_core.specs.Padded.{Behind}
use Rattle.pcap_core.proofs.Padded.{behind_both, behind_number}
use Rattle.pcap_core.proofs.WrittenNumbers.{back_bytes, number_below, number_rest}
use Rattle.pcap_items.specs.Format.{Front, Texts}
use Rattle.pcap_items.specs.Headed.{good}
use Rattle.pcap_items.proofs.Formats.{nothing_no_text}
use Rattle.pcap_blocks.specs.declared.block_type.BlockType.{BlockType}
use Rattle.pcap_blocks.specs.declared.block_type.BlockType.TheVariants as types
use Rattle.pcap_blocks.specs.BlockType.{block_type, type_number}
use Rattle.pcap_blocks.specs.InterfaceDescription.{Interface}
use Rattle.pcap_blocks.specs.ParsedBlock.{Body, BodySays, SectionBody, InterfaceBody}
use Rattle.pcap_blocks.specs.SectionHeader.{Section, VersionText, magic_order}
use Rattle.pcap_written.specs.Raw.{Raw, IsFitRaw, raw_text}
use Rattle.pcap_ng.specs.Blocks.{BlockText, block_format}
use Rattle.pcap_ng.specs.Blocks as strict_blocks
use Rattle.pcap_ng.specs.Frames.{Framed, FrameText, own_order}
use Rattle.pcap_ng.specs.RawBlocks.{framed_raw, raw_in}
use Rattle.pcap_ng.specs.State as strict
use Rattle.pcap_ng.specs.State.{is_kept, MeansIf}
use Rattle.pcap_ng.proofs.BlockFormat.{blocks_lawful}
use Rattle.pcap_ng.proofs.RawAgain.{plain_again, section_again, text_of_frame}
use Rattle.pcap_tolerant_blocks.specs.declared.sound.OptionsOf.{OptionsOf}
use Rattle.pcap_tolerant_blocks.specs.declared.sound.OptionsOf.TheVariants as kinds
use Rattle.pcap_tolerant_blocks.specs.SectionAsIs as as_is
use Rattle.pcap_tolerant_blocks.specs.SoundOptions.{IsPiece, Piece, SoundOptions, is_sound, kind_of, text_in}
use Rattle.pcap_tolerant_captures.specs.Blocks.{Item, as_is_format}
use Rattle.pcap_tolerant_captures.specs.State as tolerant
use Rattle.pcap_tolerant_captures.specs.State.{Led, Role, MeansFor, role_of, begins_section, adds_interface, leaves_all}
use Rattle.pcapfile_mended.specs.Mended.{Becomes, stays, has_body, is_left_out, IsTaken, Mends, stated, flawed, short, lost, OptionsAt, front_length, options_in, unstated, with_body, with_options, mended_text}
use Rattle.pcapfile_mended.proofs.BodiesSaid.{section_front, unstated_length, with_options_length}
use Rattle.pcapfile_mended.proofs.StrictAgain.{mended_taken}
use Rattle.pcapfile_as_is.specs.MendedCaptures.{AreRead, IsMendedSo, block_left, block_of, left_of, raw_read, text_of}

-- ---- bodies whose length is a multiple of four bytes

piece_aligned : (order : Order) (of : OptionsOf) (piece : Piece) → IsPiece order (kind_of of) piece → length piece.text % 4 ≡ 0
piece_aligned order of piece is =
    let x = is [] in
    let code = x.head.code_is in
    let len = x.head.length_is in
    omega (
      arith,
      length-append piece.text [],
      ap length code.text,
      length-append code.bytes x.head.after_code,
      code.length_is,
      ap length len.text,
      length-append len.bytes x.after_head,
      len.length_is,
      ap length x.padded.text,
      length-append (x.v ++ x.padded.padding) [],
      length-append x.v x.padded.padding,
      x.padded.aligned,
    )

one_aligned : (piece : Piece) (pieces : List Piece) (b : Bool) → is_sound piece ≡ b → length piece.text % 4 ≡ 0 → length (flat_map text_in (filter is_sound pieces)) % 4 ≡ 0
    → length (flat_map text_in (filter is_sound (piece ∷ pieces))) % 4 ≡ 0
one_aligned piece pieces true e one others = rw e (omega (arith, one, others, length-append piece.text (flat_map text_in (filter is_sound pieces))))
one_aligned piece pieces false e one others = rw e others

pieces_aligned : (order : Order) (of : OptionsOf) (pieces : List Piece) → All (IsPiece order (kind_of of)) pieces → length (flat_map text_in (filter is_sound pieces)) % 4 ≡ 0
pieces_aligned order of [] are = refl
pieces_aligned order of (piece ∷ pieces) are =
    one_aligned piece pieces (is_sound piece) refl (piece_aligned order of piece (All-head (IsPiece order (kind_of of)) piece pieces are))
    (pieces_aligned order of pieces (All-tail (IsPiece order (kind_of of)) piece pieces are))

kept_aligned : (order : Order) (of : OptionsOf) (s kept : List ℕ) → SoundOptions order (kind_of of) s kept → length kept % 4 ≡ 0
kept_aligned order of s kept x = subst (λ (t : List ℕ). length t % 4 ≡ 0) (sym x.kept_are) (pieces_aligned order of x.pieces x.are)

front_aligned : (of : OptionsOf) (order : Order) (s : List ℕ) → front_length of order s % 4 ≡ 0
front_aligned kinds.Section order s = refl
front_aligned kinds.Interface order s = refl
front_aligned kinds.EnhancedPacket order s = omega arith
front_aligned kinds.Packet order s = omega arith
front_aligned kinds.InterfaceStatistics order s = refl

with_options_aligned : (raw : Raw) (of : OptionsOf) (order : Endianness) (kept : List ℕ) → OptionsAt raw of order
    → SoundOptions (number_in order) (kind_of of) (options_in raw of order) kept → length (with_options raw of order kept) % 4 ≡ 0
with_options_aligned raw of order kept at x =
    let n = front_length of (number_in order) raw.body in
    let before = take n raw.body in
    omega (
      arith,
      at.room,
      front_aligned of (number_in order) raw.body,
      kept_aligned (number_in order) of (options_in raw of order) kept x,
      length-append (unstated raw.type_ before) kept,
      unstated_length raw.type_ before (section_front raw of order at),
      length-take n raw.body,
    )

-- ---- sections

number_front : (n : ℕ) (s rest : List ℕ) → Number big_number 4 n s rest → big_number 4 (take 4 s) ≡ n
number_front n s rest x = ap (big_number 4) (ap (take 4) x.text ∙ take_at x.bytes rest 4 x.length_is) ∙ x.value

long_version : (order : Order) (magic : ℕ) (section : Section) (s after_magic rest : List ℕ) → Number big_number 4 magic s after_magic → VersionText order section after_magic rest → 16 ≤ length s
long_version order magic section s after_magic rest number v =
    let behind : Behind 16 s rest = behind_both (behind_number number) (behind_both (behind_both (behind_number v.major) (behind_number v.minor)) (behind_number v.length_number)) in
    omega (arith, ap length behind.text, length-append behind.bytes rest, behind.length_is)

taken_long : (order : Order) (s : List ℕ) (body : Body) (rest : List ℕ) → BodySays order types.SectionHeader s (whole body rest) → 16 ≤ length s
taken_long order s body rest says = let x = says.2 in long_version (number_in x.endianness) says.0.magic says.0 s x.after_magic x.after.after_version x.magic_is x.after.version

typed_long : (type : BlockType) (order : Order) (s : List ℕ) (body : Body) (rest : List ℕ) → BodySays order type s (whole body rest) → type ≡ types.SectionHeader → 16 ≤ length s
typed_long type order s body rest says is = taken_long order s body rest (subst (λ (t : BlockType). BodySays order t s (whole body rest)) is says)

first_four : (u v : List ℕ) → 8 ≤ length u → take 4 (take 8 u ++ v) ≡ take 4 u
first_four u v long =
    let eight : 4 ≤ length (take 8 u) = omega (arith, length-take 8 u, long) in
    take-append-le 4 (take 8 u) v eight ∙ take-take 4 8 u (omega arith)

stated_four : (s : List ℕ) → 16 ≤ length s → take 4 (unstated types.SectionHeader s) ≡ take 4 s
stated_four s long = first_four s (replicate 8 255 ++ drop 16 s) (omega (arith, long))

options_four : (e order : Endianness) (s kept : List ℕ) (of : OptionsOf) → OptionsAt (record { type_ = types.SectionHeader; endianness = e; body = s }) of order
    → take 4 (with_options (record { type_ = types.SectionHeader; endianness = e; body = s }) of order kept) ≡ take 4 s
options_four e order s kept of at =
    let raw : Raw = record { type_ = types.SectionHeader; endianness = e; body = s } in
    let n = front_length of (number_in order) s in
    let u = take n s in
    let long : 16 ≤ length u = section_front raw of order at refl in
    let more : 4 ≤ n = omega (arith, long, length-take n s) in
    let whole_long : 4 ≤ length (unstated types.SectionHeader u) = omega (arith, unstated_length types.SectionHeader u (λ _. long), long) in
    take-append-le 4 (unstated types.SectionHeader u) kept whole_long ∙ stated_four u long ∙ take-take 4 n s more

-- ---- the block that is left can be written

fit_after : (raw : Raw) (t : List ℕ) → Mends raw (has_body t) → IsFitRaw raw → IsFitRaw (with_body raw t)
fit_after raw _ (stated body rest says other) fit =
    let same = unstated_length raw.type_ raw.body (typed_long raw.type_ (number_in raw.endianness) raw.body body rest says) in
    record { number = fit.number; named = fit.named; aligned = omega (arith, same, fit.aligned); short = omega (arith, same, fit.short) }
fit_after raw _ (flawed fault of order kept says at x) fit = record {
  number = fit.number;
  named = fit.named;
  aligned = with_options_aligned raw of order kept at x;
  short = omega (arith, with_options_length raw of order kept at x, fit.short);
}
fit_after raw _ (short is lt) fit =
    let eight : length (raw.body ++ replicate {A = ℕ} (8 - length raw.body) 0) ≡ 8 = omega (arith, lt, length-append raw.body (replicate {A = ℕ} (8 - length raw.body) 0), length-replicate {A = ℕ} (8 - length raw.body) 0) in
    record { number = fit.number; named = fit.named; aligned = omega (arith, eight); short = omega (arith, eight) }

four_after : (e : Endianness) (s t : List ℕ) → Mends (record { type_ = types.SectionHeader; endianness = e; body = s }) (has_body t) → take 4 t ≡ take 4 s
four_after e s _ (stated body rest says other) = stated_four s (taken_long (number_in e) s body rest says)
four_after e s _ (flawed fault of order kept says at x) = options_four e order s kept of at
four_after e s _ (short is lt) = absurd cc

-- ---- a block in its frame

number_of_type : (n : ℕ) → type_number (block_type n) ≡ n
number_of_type n = search rules

module _ (e : Endianness) (b : Framed) (s rest : List ℕ) (f : FrameText e b s rest) where
  fit_frame : IsBytes s → IsFitRaw (raw_in b)
  fit_frame fits =
      let head = f.head in
      let after = number_rest (number_in e) 4 f.number s head.after_number fits head.number_is in
      let number : type_number b.type_ ≡ f.number = ap type_number f.type_is ∙ number_of_type f.number in
      let below : f.number < 2 ^ 32 = number_below e f.number s head.after_number fits head.number_is in
      let len : b.initial_len < 2 ^ 32 = number_below b.endianness b.initial_len head.after_number f.after after head.len_is in
      record {
        number = rw number below;
        named = ap block_type number ∙ sym f.type_is;
        aligned = omega (arith, f.aligned, f.tail.length_is);
        short = omega (arith, len, f.tail.length_is);
      }

  tail_bytes : IsBytes s → IsBytes rest
  tail_bytes fits = back_bytes (raw_text (raw_in b)) rest (subst IsBytes (text_of_frame e b s rest fits f) fits)

  section_named : b.type_ ≡ types.SectionHeader → 4 ≤ length b.body → magic_order (big_number 4 (take 4 b.body)) ≡ Some b.endianness
  unfolding own_order
  section_named is long =
      let number : f.number ≡ 0x0A0D0D0A = sym (ap type_number f.type_is ∙ number_of_type f.number) ∙ ap type_number is in
      let named : magic_order f.head.magic ≡ Some b.endianness = subst (λ (n : ℕ). own_order e n f.head.magic ≡ Some b.endianness) number f.head.own_is in
      let there : take 4 f.after ≡ take 4 b.body = ap (take 4) f.tail.body_is ∙ take-append-le 4 b.body f.tail.after_body long in
      ap magic_order (ap (big_number 4) (sym there) ∙ number_front f.head.magic f.after f.head.more f.head.magic_is) ∙ named

  plain_order : (b.type_ ≡ types.SectionHeader → ⊥) → b.endianness ≡ e
  unfolding own_order
  plain_order other =
      let differ : f.number ≢ 0x0A0D0D0A = λ is. other (f.type_is ∙ ap block_type is) in
      let named : ◌≡◌ {A = Option Endianness} (Some e) (Some b.endianness) = rw (ne_eqb f.number 0x0A0D0D0A differ) at f.head.own_is in
      cc

-- ---- the state after a mended block

-- Agrees: both states have the same byte order.
Agrees : tolerant.State → strict.State → Type 0
Agrees tolerant.opening strict.opening = ⊤
Agrees (tolerant.within section interfaces) (strict.within s is) = strict.order_at (strict.within section []) ≡ strict.order_at (strict.within s is)
Agrees _ _ = ⊥

-- Reads: the block that is left is read and leads to this state; if none is left, nothing is read.
Reads : strict.State → strict.State → Option Raw → List ℕ → List ℕ → Type 0
Reads p next None text rest = (text ≡ []) × (next ≡ p)
Reads p next (Some raw) text rest = (text ≡ raw_text raw) × BlockText p (record { block = framed_raw raw; after = next }) (raw_text raw ++ rest) rest

record Steps (p : strict.State) (after : tolerant.State) (left : Option Raw) (text : List ℕ) : Type 0 where
  next : strict.State
  agrees : Agrees after next
  read : (rest : List ℕ) → Reads p next left text rest

-- The block with this type, byte order and body.
abbrev raw_as : BlockType → Endianness → List ℕ → Raw
raw_as type e s = record { type_ = type; endianness = e; body = s }

section_means : (p : strict.State) (b : Framed) (section : Section) (rest : List ℕ) → b.type_ ≡ types.SectionHeader
    → BodySays (number_in b.endianness) b.type_ b.body (whole (SectionBody section) rest) → strict.Means p b (good (strict.within section []))
section_means strict.opening b section rest is says = (SectionBody section, rest, says, refl)
section_means (strict.within s interfaces) b section rest is says = rw is (SectionBody section, rest, rw is at says, refl)

section_agrees : (section other : Section) (after : tolerant.State) → after ≡ tolerant.within section [] → section.magic ≡ other.magic → Agrees after (strict.within other [])
unfolding Agrees strict.order_at
section_agrees section other after is same = rw (is, same) refl

-- A section that is left is read, whatever the byte order before it.
section_step : (p : strict.State) (led : Led) (e : Endianness) (s t : List ℕ) (section : Section) (rest : List ℕ) → as_is.SectionText section led.flaws s rest → led.after ≡ tolerant.within section []
    → magic_order (big_number 4 (take 4 s)) ≡ Some e → take 4 t ≡ take 4 s → IsFitRaw (raw_as types.SectionHeader e t) → IsTaken (number_in e) types.SectionHeader t true
    → Steps p led.after (Some (raw_as types.SectionHeader e t)) (raw_text (raw_as types.SectionHeader e t))
unfolding Reads
section_step p led e s t section rest text after named same fit (body, behind, says) =
    let other = says.0 in
    let here : big_number 4 (take 4 t) ≡ other.magic = number_front other.magic t says.2.after_magic says.2.magic_is in
    let there : big_number 4 (take 4 s) ≡ section.magic = number_front section.magic s text.after_magic text.magic_is in
    let magic : section.magic ≡ other.magic = sym there ∙ ap (big_number 4) (sym same) ∙ here in
    let magic_named : magic_order (big_number 4 (take 4 t)) ≡ Some e = ap (λ (u : List ℕ). magic_order (big_number 4 u)) same ∙ named in
    let whole_says : BodySays (number_in e) types.SectionHeader t (whole (SectionBody other) behind) = (other, refl, says.2) in
    record {
      next = strict.within other [];
      agrees = section_agrees section other led.after after magic;
      read = λ more. (
        refl,
        record {
          frame = section_again (strict.order_at p) e t more fit magic_named;
          means = section_means p (framed_raw (raw_as types.SectionHeader e t)) other behind refl whole_says;
        },
      );
    }

section_mended : (p : strict.State) (led : Led) (e : Endianness) (s : List ℕ) (becomes : Becomes) (section : Section) (rest : List ℕ) → as_is.SectionText section led.flaws s rest
    → led.after ≡ tolerant.within section [] → magic_order (big_number 4 (take 4 s)) ≡ Some e → IsFitRaw (raw_as types.SectionHeader e s) → Mends (raw_as types.SectionHeader e s) becomes
    → Steps p led.after (left_of (raw_as types.SectionHeader e s) becomes) (mended_text (raw_as types.SectionHeader e s) becomes)
section_mended p led e s stays section rest text after named fit mends =
    section_step p led e s s section rest text after named refl fit (mended_taken (raw_as types.SectionHeader e s) stays mends)
section_mended p led e s (has_body t) section rest text after named fit mends =
    section_step p led e s t section rest text after named (four_after e s t mends) (fit_after (raw_as types.SectionHeader e s) t mends fit) (mended_taken (raw_as types.SectionHeader e s) (has_body t) mends)
section_mended p led e s is_left_out section rest text after named fit (lost fault says none other) =
    let long = long_version (number_in text.endianness) section.magic section s text.after_magic text.after.after_version text.magic_is text.after.version in
    absurd (none kinds.Section e (record { of_type = refl; named = named; room = long }))

module _ (section : Section) (interfaces : List (Option Interface)) (s : Section) (is : List Interface) (agree : strict.order_at (strict.within section []) ≡ strict.order_at (strict.within s is)) where
  abbrev here : strict.State
  here = strict.within s is

  within_agrees : (after : tolerant.State) (all : List (Option Interface)) (more : List Interface) → after ≡ tolerant.within section all → Agrees after (strict.within s more)
  unfolding Agrees strict.order_at
  within_agrees after all more same = rw same agree

  plain_frame : (raw : Raw) (rest : List ℕ) → IsFitRaw raw → (type_number raw.type_ == 0x0A0D0D0A) ≡ false → raw.endianness ≡ strict.order_at here
      → FrameText (strict.order_at here) (framed_raw raw) (raw_text raw ++ rest) rest
  plain_frame raw rest fit other order = subst (λ (o : Endianness). FrameText o (framed_raw raw) (raw_text raw ++ rest) rest) order (plain_again raw rest fit other)

  -- An interface that is left is read.
  interface_step : (led : Led) (e : Endianness) (t : List ℕ) (all : List (Option Interface)) → led.after ≡ tolerant.within section all → e ≡ strict.order_at here
      → IsFitRaw (raw_as types.InterfaceDescription e t) → IsTaken (number_in e) types.InterfaceDescription t true
      → Steps here led.after (Some (raw_as types.InterfaceDescription e t)) (raw_text (raw_as types.InterfaceDescription e t))
  unfolding Reads
  interface_step led e t all after order fit (body, behind, says) = record {
    next = strict.within s (is ++ says.0 ∷ []);
    agrees = within_agrees led.after all (is ++ says.0 ∷ []) after;
    read = λ more. (
      refl,
      record {
        frame = plain_frame (raw_as types.InterfaceDescription e t) more fit refl order;
        means = (InterfaceBody says.0, behind, (says.0, refl, says.2), refl);
      },
    );
  }

  interface_mended : (led : Led) (e : Endianness) (t : List ℕ) (becomes : Becomes) (all : List (Option Interface)) → led.after ≡ tolerant.within section all → e ≡ strict.order_at here
      → IsFitRaw (raw_as types.InterfaceDescription e t) → Mends (raw_as types.InterfaceDescription e t) becomes
      → Steps here led.after (left_of (raw_as types.InterfaceDescription e t) becomes) (mended_text (raw_as types.InterfaceDescription e t) becomes)
  interface_mended led e t stays all after order fit mends = interface_step led e t all after order fit (mended_taken (raw_as types.InterfaceDescription e t) stays mends)
  interface_mended led e t (has_body u) all after order fit mends =
      interface_step led e u all after order (fit_after (raw_as types.InterfaceDescription e t) u mends fit) (mended_taken (raw_as types.InterfaceDescription e t) (has_body u) mends)
  interface_mended led e t is_left_out all after order fit (lost fault says none other) = absurd (other refl)

  -- Any other block that is left is read.
  other_step : (led : Led) (raw : Raw) → led.after ≡ tolerant.within section interfaces → raw.endianness ≡ strict.order_at here → (type_number raw.type_ == 0x0A0D0D0A) ≡ false → is_kept raw.type_ ≡ false
      → IsFitRaw raw → Steps here led.after (Some raw) (raw_text raw)
  unfolding Reads
  other_step led raw after order other unkept fit = record {
    next = here;
    agrees = within_agrees led.after interfaces is after;
    read = λ more. (
      refl,
      record {
        frame = plain_frame raw more fit other order;
        means = rw unkept refl;
      },
    );
  }

  other_mended : (led : Led) (raw : Raw) (becomes : Becomes) → led.after ≡ tolerant.within section interfaces → raw.endianness ≡ strict.order_at here → (type_number raw.type_ == 0x0A0D0D0A) ≡ false → is_kept raw.type_ ≡ false
      → IsFitRaw raw → Mends raw becomes → Steps here led.after (left_of raw becomes) (mended_text raw becomes)
  unfolding Reads
  other_mended led raw stays after order other unkept fit mends = other_step led raw after order other unkept fit
  other_mended led raw (has_body t) after order other unkept fit mends = other_step led (with_body raw t) after order other unkept (fit_after raw t mends fit)
  other_mended led raw is_left_out after order other unkept fit mends = record { next = here; agrees = within_agrees led.after interfaces is after; read = λ more. (refl, refl) }

-- ---- a block of any type

order_agrees : (q : tolerant.State) (p : strict.State) → Agrees q p → tolerant.order_at q ≡ strict.order_at p
unfolding Agrees
order_agrees tolerant.opening strict.opening agrees = refl
order_agrees tolerant.opening (strict.within s is) agrees = absurd agrees
order_agrees (tolerant.within section interfaces) strict.opening agrees = absurd agrees
order_agrees (tolerant.within section interfaces) (strict.within s is) agrees = agrees

interface_typed : (q : tolerant.State) (p : strict.State) (b : Framed) (led : Led) (becomes : Becomes) → Agrees q p → b.endianness ≡ strict.order_at p
    → IsFitRaw (raw_as types.InterfaceDescription b.endianness b.body) → MeansFor adds_interface q b (good led) → Mends (raw_as types.InterfaceDescription b.endianness b.body) becomes
    → Steps p led.after (left_of (raw_as types.InterfaceDescription b.endianness b.body) becomes) (mended_text (raw_as types.InterfaceDescription b.endianness b.body) becomes)
unfolding Agrees
interface_typed tolerant.opening p b led becomes agrees order fit means mends = absurd means
interface_typed (tolerant.within section interfaces) strict.opening b led becomes agrees order fit means mends = absurd agrees
interface_typed (tolerant.within section interfaces) (strict.within s is) b led becomes agrees order fit means mends =
    interface_mended section interfaces s is agrees led b.endianness b.body becomes means.0 means.2 order fit mends

other_typed : (q : tolerant.State) (p : strict.State) (b : Framed) (led : Led) (becomes : Becomes) (raw : Raw) → Agrees q p → raw.endianness ≡ strict.order_at p
    → (type_number raw.type_ == 0x0A0D0D0A) ≡ false → is_kept raw.type_ ≡ false → IsFitRaw raw → MeansFor leaves_all q b (good led) → Mends raw becomes
    → Steps p led.after (left_of raw becomes) (mended_text raw becomes)
unfolding Agrees
other_typed tolerant.opening p b led becomes raw agrees order other unkept fit means mends = absurd means
other_typed (tolerant.within section interfaces) strict.opening b led becomes raw agrees order other unkept fit means mends = absurd agrees
other_typed (tolerant.within section interfaces) (strict.within s is) b led becomes raw agrees order other unkept fit means mends =
    other_mended section interfaces s is agrees led raw becomes means.1 order other unkept fit mends

unknown_other : (n : ℕ) → block_type n ≡ types.Unknown n → (n == 0x0A0D0D0A) ≡ false
unknown_other n named =
    let differ : n ≢ 0x0A0D0D0A = λ is. let wrong : block_type 0x0A0D0D0A ≡ types.Unknown n = subst (λ (k : ℕ). block_type k ≡ types.Unknown n) is named in absurd cc in
    ne_eqb n 0x0A0D0D0A differ

module _ (q : tolerant.State) (p : strict.State) (b : Framed) (led : Led) (becomes : Becomes) (agrees : Agrees q p)
    (named : b.type_ ≡ types.SectionHeader → 4 ≤ length b.body → magic_order (big_number 4 (take 4 b.body)) ≡ Some b.endianness)
    (order : (b.type_ ≡ types.SectionHeader → ⊥) → b.endianness ≡ strict.order_at p) where
  typed : (type : BlockType) → b.type_ ≡ type → IsFitRaw (raw_as type b.endianness b.body) → MeansFor (role_of type) q b (good led) → Mends (raw_as type b.endianness b.body) becomes
      → Steps p led.after (left_of (raw_as type b.endianness b.body) becomes) (mended_text (raw_as type b.endianness b.body) becomes)
  typed types.SectionHeader is fit (section, rest, text, after) mends =
      let long = long_version (number_in text.endianness) section.magic section b.body text.after_magic text.after.after_version text.magic_is text.after.version in
      section_mended p led b.endianness b.body becomes section rest text after (named is (omega (arith, long))) fit mends
  typed types.InterfaceDescription is fit means mends =
      interface_typed q p b led becomes agrees (order (λ wrong. let same : types.InterfaceDescription ≡ types.SectionHeader = sym is ∙ wrong in absurd cc)) fit means mends
  typed types.Packet is fit means mends =
      other_typed q p b led becomes _ agrees (order (λ wrong. let same : types.Packet ≡ types.SectionHeader = sym is ∙ wrong in absurd cc)) refl refl fit means mends
  typed types.SimplePacket is fit means mends =
      other_typed q p b led becomes _ agrees (order (λ wrong. let same : types.SimplePacket ≡ types.SectionHeader = sym is ∙ wrong in absurd cc)) refl refl fit means mends
  typed types.NameResolution is fit means mends =
      other_typed q p b led becomes _ agrees (order (λ wrong. let same : types.NameResolution ≡ types.SectionHeader = sym is ∙ wrong in absurd cc)) refl refl fit means mends
  typed types.InterfaceStatistics is fit means mends =
      other_typed q p b led becomes _ agrees (order (λ wrong. let same : types.InterfaceStatistics ≡ types.SectionHeader = sym is ∙ wrong in absurd cc)) refl refl fit means mends
  typed types.EnhancedPacket is fit means mends =
      other_typed q p b led becomes _ agrees (order (λ wrong. let same : types.EnhancedPacket ≡ types.SectionHeader = sym is ∙ wrong in absurd cc)) refl refl fit means mends
  typed types.SystemdJournalExport is fit means mends =
      other_typed q p b led becomes _ agrees (order (λ wrong. let same : types.SystemdJournalExport ≡ types.SectionHeader = sym is ∙ wrong in absurd cc)) refl refl fit means mends
  typed (types.Unknown n) is fit means mends =
      other_typed q p b led becomes _ agrees (order (λ wrong. let same : types.Unknown n ≡ types.SectionHeader = sym is ∙ wrong in absurd cc)) (unknown_other n fit.named) refl fit means mends

  steps : IsFitRaw (raw_in b) → MeansFor (role_of b.type_) q b (good led) → Mends (raw_in b) becomes → Steps p led.after (left_of (raw_in b) becomes) (mended_text (raw_in b) becomes)
  steps fit means mends = typed b.type_ refl fit means mends

-- ---- a capture

-- AreTexts: these blocks are read from the bytes, and nothing follows them.
AreTexts : strict.State → List ℕ → List Raw → Type 0
AreTexts p s raws = (items : List strict_blocks.Item) × Texts block_format p items s [] × (map raw_read items ≡ raws)

joined : (p next : strict.State) (left : Option Raw) (text behind : List ℕ) (others : List (Item × Becomes)) → ((rest : List ℕ) → Reads p next left text rest)
    → AreTexts next behind (filter_map block_left others) → AreTexts p (text ++ behind) (cons_option left (filter_map block_left others))
unfolding Reads AreTexts block_format
joined p next None text behind others read (items, texts, same) =
    let nothing = read behind in
    let there : Texts block_format p items behind [] = subst (λ (q : strict.State). Texts block_format q items behind []) nothing.1 texts in
    (items, subst (λ (t : List ℕ). Texts block_format p items (t ++ behind) []) (sym nothing.0) there, same)
joined p next (Some raw) text behind others read (items, texts, same) =
    let item : strict_blocks.Item = record { block = framed_raw raw; after = next } in
    let one = read behind in
    let there : BlockText p item (text ++ behind) behind = subst (λ (t : List ℕ). BlockText p item (t ++ behind) behind) (sym one.0) one.1 in
    (item ∷ items, (behind, there, texts), ap (λ (raws : List Raw). raw ∷ raws) same)

are_read : (q : tolerant.State) (p : strict.State) (mended : List (Item × Becomes)) (s left : List ℕ) → IsBytes s → Agrees q p → Texts as_is_format q (map block_of mended) s left
    → All IsMendedSo mended → AreTexts p (flat_map text_of mended) (filter_map block_left mended)
unfolding AreTexts as_is_format block_format
are_read q p [] s left fits agrees texts all = ([], refl, refl)
are_read q p (one ∷ others) s left fits agrees (after, text, more) all =
    let b = one.0.block in
    let frame = text.frame in
    let same = order_agrees q p agrees in
    let order : (b.type_ ≡ types.SectionHeader → ⊥) → b.endianness ≡ strict.order_at p = λ other. plain_order (tolerant.order_at q) b s after frame other ∙ same in
    let step = steps q p b one.0.led one.1 agrees (section_named (tolerant.order_at q) b s after frame) order
    (fit_frame (tolerant.order_at q) b s after frame fits) text.means (All-head IsMendedSo one others all) in
    let tail = are_read one.0.led.after step.next others after left (tail_bytes (tolerant.order_at q) b s after frame fits) step.agrees more (All-tail IsMendedSo one others all) in
    joined p step.next (block_left one) (text_of one) (flat_map text_of others) others step.read tail

pub mended_read : (mended : List (Item × Becomes)) (s left : List ℕ) → IsBytes s → Front as_is_format tolerant.opening (map block_of mended) s left → All IsMendedSo mended → AreRead mended
unfolding AreTexts Agrees
mended_read mended s left fits front all =
    let (items, texts, same) = are_read tolerant.opening strict.opening mended s left fits tt front.texts all in
    (items, record { texts = texts; longest = λ other after t. nothing_no_text block_format blocks_lawful _ other after t }, same)
