-- Blocks of which the code reads only the type number and the two lengths.
use Rattle.std.proofs.Common.{◌≡◌, ◌≤◌, ◌+◌, ◌-◌, ℕ, List, ◌++◌, length, Some, false, refl, sym, ap, subst, ◌∙◌, arith, append_assoc, length-append, inl, inr}
use Rattle.std.specs.Prelude.{◌%◌}
use Rattle.std.proofs.lemmas.Bool.Decides.{eqb_tells}
use Rattle.byteorder.specs.Endian.{big_number}
use Rattle.pcap_core.specs.declared.common.Endianness.{Endianness}
use Rattle.pcap_core.specs.Answer.{Number, number_in}
use Rattle.pcap_items.proofs.Formats.{beginning}
use Rattle.pcap_core.proofs.Numbers.{number_there}
use Rattle.pcap_core.proofs.Texts.{number_same, number_length, split_same}
use Rattle.pcap_blocks.specs.BlockType.{block_type}
use Rattle.pcap_ng.specs.Frames.{Framed, FrameHeadText, FrameTail, FrameText, own_order}
use Rattle.pcap_ng.specs.State.{is_kept}
use Rattle.pcap_ng.specs.Stretches.{LeavesInForce}
use Rattle.pcap_ng.proofs.Frames.{head_long}

-- Begins e number len s after: s is a type number and a length in this byte order, followed by `after`.
pub record Begins (e : Endianness) (number len : ℕ) (s after : List ℕ) : Type 0 where
  pub after_number : List ℕ
  pub number_is : Number (number_in e) 4 number s after_number
  pub len_is : Number (number_in e) 4 len after_number after

-- Ends e len trailer s rest: s is `len` bytes, of which the last four are the number `trailer`, followed by rest.
pub record Ends (e : Endianness) (len trailer : ℕ) (s rest : List ℕ) : Type 0 where
  pub front : List ℕ
  pub last : List ℕ
  pub split : s ≡ front ++ (last ++ rest)
  pub front_is : length front + 4 ≡ len
  pub last_is : length last ≡ 4
  pub value : number_in e 4 last ≡ trailer

pub begins_with : (e : Endianness) (number len : ℕ) (s after_number after : List ℕ) → Number (number_in e) 4 number s after_number → Number (number_in e) 4 len after_number after → Begins e number len s after
begins_with e number len s after_number after first second = record { after_number = after_number; number_is = first; len_is = second }

-- If s is split after a block, and the block before its last four bytes, the block ends in the number in these.
pub ends_with : (e : Endianness) (len trailer : ℕ) (s block rest front last : List ℕ) → s ≡ block ++ rest → length block ≡ len → block ≡ front ++ last → length front ≡ len - 4 → 12 ≤ len → number_in e 4 last ≡ trailer
    → Ends e len trailer s rest
ends_with e len trailer s block rest front last split size parts before long value = record {
  front = front;
  last = last;
  split = split ∙ ap (λ (l : List ℕ). l ++ rest) parts ∙ append_assoc front last rest;
  front_is = omega (arith, before, long);
  last_is = omega (arith, size, ap length parts, length-append front last, before, long);
  value = value;
}

-- A block of a type that leaves what is in force unchanged has the byte order of its section.
leaving_order : (e : Endianness) (number magic : ℕ) → is_kept (block_type number) ≡ false → own_order e number magic ≡ Some e
unfolding own_order
leaving_order e number magic leaves =
    elim (eqb_tells number 0x0A0D0D0A) [
      | inl section ↦ let kept : is_kept (block_type 0x0A0D0D0A) ≡ false = subst (λ (n : ℕ). is_kept (block_type n) ≡ false) section.1 leaves in absurd cc
      | inr other ↦ rw other.0 refl
    ]

module _ (e : Endianness) (number len : ℕ) (s after : List ℕ) (begins : Begins e number len s after) where
  -- The body is what is between the head and the length after it.
  body_between : (trailer : ℕ) (rest : List ℕ) (ends : Ends e len trailer s rest) → 12 ≤ len → (body : List ℕ) × (after ≡ body ++ (ends.last ++ rest)) × (len ≡ length body + 12)
  body_between trailer rest ends long =
      let a = begins.number_is.bytes in
      let b = begins.len_is.bytes in
      let text : s ≡ (a ++ b) ++ after = begins.number_is.text ∙ ap (λ (l : List ℕ). a ++ l) begins.len_is.text ∙ sym (append_assoc a b after) in
      let eight : length (a ++ b) ≡ 8 = length-append a b ∙ omega (arith, begins.number_is.length_is, begins.len_is.length_is) in
      let cut = beginning (a ++ b) after ends.front (ends.last ++ rest) (sym text ∙ ends.split) (omega (arith, eight, long, ends.front_is)) in
      (cut.0, cut.2, omega (arith, ends.front_is, ap length cut.1, length-append (a ++ b) cut.0, eight))

  -- Bytes whose two lengths are equal, with a type that leaves what is in force unchanged, are a block.
  pub block_passed : (trailer : ℕ) (rest : List ℕ) → Ends e len trailer s rest → is_kept (block_type number) ≡ false → len % 4 ≡ 0 → 12 ≤ len → trailer ≡ len
      → (b : Framed) × FrameText e b s rest × LeavesInForce b
  block_passed trailer rest ends leaves aligned long same =
      let between = body_between trailer rest ends long in
      let third = number_there big_number 4 after (omega (arith, ap length between.1, length-append between.0 (ends.last ++ rest), length-append ends.last rest, ends.last_is)) in
      let head : FrameHeadText e number e len s after = record {
        after_number = begins.after_number;
        more = third.1;
        magic = third.0;
        number_is = begins.number_is;
        len_is = begins.len_is;
        magic_is = third.2;
        own_is = leaving_order e number third.0 leaves;
      } in
      let tail : FrameTail e len between.0 trailer after rest = record {
        after_body = ends.last ++ rest;
        body_is = between.1;
        length_is = between.2;
        trailer_is = record { bytes = ends.last; text = refl; length_is = ends.last_is; value = ends.value };
      } in
      let b : Framed = record { type_ = block_type number; initial_len = len; body = between.0; trailer_len = trailer; endianness = e } in
      (b, record { number = number; after = after; head = head; type_is = refl; aligned = aligned; tail = tail; same = same }, leaves)

  -- A block that leaves what is in force unchanged has the type number and the length with which its bytes begin.
  module _ (b : Framed) (rest : List ℕ) (text : FrameText e b s rest) (leaves : LeavesInForce b) where
    pub leaving_type : is_kept (block_type number) ≡ false
    leaving_type =
        let same = number_same (number_in e) 4 text.number number s text.head.after_number begins.after_number text.head.number_is begins.number_is in
        subst (λ (n : ℕ). is_kept (block_type n) ≡ false) same.0 (ap is_kept (sym text.type_is) ∙ leaves)

    own_is : b.endianness ≡ e
    own_is =
        let kept : is_kept (block_type text.number) ≡ false = ap is_kept (sym text.type_is) ∙ leaves in
        let named : Some b.endianness ≡ Some e = sym text.head.own_is ∙ leaving_order e text.number text.head.magic kept in
        cc

    length_seen : (b.initial_len ≡ len) × (text.after ≡ after)
    length_seen =
        let same = number_same (number_in e) 4 text.number number s text.head.after_number begins.after_number text.head.number_is begins.number_is in
        let there = subst (λ (o : Endianness). Number (number_in o) 4 b.initial_len text.head.after_number text.after) own_is text.head.len_is in
        let here = subst (λ (l : List ℕ). Number (number_in e) 4 b.initial_len l text.after) same.1 there in
        number_same (number_in e) 4 b.initial_len len begins.after_number text.after after here begins.len_is

    pub aligned_length : len % 4 ≡ 0
    aligned_length = ap (λ (n : ℕ). n % 4) (sym length_seen.0) ∙ text.aligned

    pub block_length : (length s ≡ len + length rest) × (12 ≤ len)
    block_length =
        let tail = text.tail in
        let long = head_long e text.number b.initial_len b.endianness s text.after text.head in
        let last = number_length (number_in b.endianness) 4 b.trailer_len tail.after_body rest tail.trailer_is in
        (omega (arith, long, length_seen.0, ap length tail.body_is, length-append b.body tail.after_body, tail.length_is, last), omega (arith, length_seen.0, tail.length_is))

    pub equal_lengths : (trailer : ℕ) (more : List ℕ) → Ends e len trailer s more → trailer ≡ len
    equal_lengths trailer more ends =
        let tail = text.tail in
        let between = body_between trailer more ends block_length.1 in
        let size : length b.body ≡ length between.0 = omega (arith, tail.length_is, length_seen.0, between.2) in
        let bodies = split_same b.body tail.after_body between.0 (ends.last ++ more) size (sym tail.body_is ∙ length_seen.1 ∙ between.1) in
        let lasts = split_same tail.trailer_is.bytes rest ends.last more (tail.trailer_is.length_is ∙ sym ends.last_is) (sym tail.trailer_is.text ∙ bodies.1) in
        let there : number_in e 4 tail.trailer_is.bytes ≡ b.trailer_len = subst (λ (o : Endianness). number_in o 4 tail.trailer_is.bytes ≡ b.trailer_len) own_is tail.trailer_is.value in
        sym ends.value ∙ ap (number_in e 4) (sym lasts.0) ∙ there ∙ text.same ∙ length_seen.0
