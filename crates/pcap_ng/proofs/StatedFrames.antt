-- A frame whose head is read.
use Rattle.std.proofs.Common.{◌≡◌, ◌<◌, ◌+◌, ℕ, List, [], ◌++◌, length, drop, refl, sym, ap, subst, ◌∙◌, arith, append-nil, append_assoc, length-append, inl, inr}
use Rattle.std.proofs.lemmas.Bool.{cases_eq}
use Rattle.std.proofs.lemmas.List.{drop_at}
use Rattle.byteorder.specs.Endian.{big_number}
use Rattle.pcap_core.specs.declared.common.Endianness.{Endianness}
use Rattle.pcap_core.specs.declared.rules.Rule.{Rule}
use Rattle.pcap_core.specs.declared.rules.Rule.TheVariants.{BlockLengthsDiffer}
use Rattle.pcap_core.specs.Answer.{Number, number_in, lacks, faulty}
use Rattle.pcap_core.specs.Faults.{Invalid}
use Rattle.pcap_blocks.specs.BlockType.{block_type}
use Rattle.pcap_items.specs.Filling.{IsSettled, Stated}
use Rattle.pcap_ng.specs.declared.pcapng.framing.FrameHead.{FrameHead}
use Rattle.pcap_ng.specs.Frames.{Framed, FrameHeadText, IsGoodLength, BreaksHead, FrameTail, FrameText, LengthsDiffer, in_head, unequal, frame_format}
use Rattle.pcap_ng.specs.StatedFrames.{KnowsFrame, TailOf, TailDiffers}
use Rattle.pcap_ng.proofs.Frames.{head_long}

pub frame_head : (e : Endianness) → frame_format.head e ≡ 12
unfolding frame_format
frame_head e = refl

number_more : (order : ℕ → List ℕ → ℕ) (w n : ℕ) (s a more : List ℕ) → Number order w n s a → Number order w n (s ++ more) (a ++ more)
number_more order w n s a more p = record { bytes = p.bytes; text = ap (λ t. t ++ more) p.text ∙ append_assoc p.bytes a more; length_is = p.length_is; value = p.value }

head_more : (e : Endianness) (number len : ℕ) (own : Endianness) (s after more : List ℕ) → FrameHeadText e number own len s after → FrameHeadText e number own len (s ++ more) (after ++ more)
head_more e number len own s after more t = record {
  after_number = t.after_number ++ more;
  more = t.more ++ more;
  magic = t.magic;
  number_is = number_more (number_in e) 4 number s t.after_number more t.number_is;
  len_is = number_more (number_in own) 4 len t.after_number after more t.len_is;
  magic_is = number_more big_number 4 t.magic after t.more more t.magic_is;
  own_is = t.own_is;
}

-- The bytes after the length are the bytes after the first eight.
pub head_drop : (e : Endianness) (number len : ℕ) (own : Endianness) (s after : List ℕ) → FrameHeadText e number own len s after → drop 8 s ≡ after
head_drop e number len own s after t =
    let a = t.number_is.bytes in
    let b = t.len_is.bytes in
    let text : s ≡ (a ++ b) ++ after = t.number_is.text ∙ ap (λ (l : List ℕ). a ++ l) t.len_is.text ∙ sym (append_assoc a b after) in
    ap (drop 8) text ∙ drop_at (a ++ b) after 8 (length-append a b ∙ omega (arith, t.number_is.length_is, t.len_is.length_is))

-- A head in the first twelve bytes is the head of all bytes.
pub head_of_all : (e : Endianness) (head : FrameHead) (s : List ℕ) → Stated (KnowsFrame e) (frame_format.head e) head s → FrameHeadText e head.number head.endianness head.len s (drop 8 s)
head_of_all e head s t =
    let k = t.knows in
    let all : FrameHeadText e head.number head.endianness head.len (t.front ++ t.body) (k.after ++ t.body) = head_more e head.number head.len head.endianness t.front k.after t.body k.text in
    let here : FrameHeadText e head.number head.endianness head.len s (k.after ++ t.body) = subst (λ (l : List ℕ). FrameHeadText e head.number head.endianness head.len l (k.after ++ t.body)) (sym t.split) all in
    subst (λ (l : List ℕ). FrameHeadText e head.number head.endianness head.len s l) (sym (head_drop e head.number head.len head.endianness s (k.after ++ t.body) here)) here

pub stated_length : (e : Endianness) (head : FrameHead) (s : List ℕ) → Stated (KnowsFrame e) (frame_format.head e) head s → length s ≡ head.len
stated_length e head s t = omega (arith, ap length t.split, length-append t.front t.body, t.length_is, frame_head e, t.knows.follows)

module _ (e : Endianness) (head : FrameHead) (s after : List ℕ) (text : FrameHeadText e head.number head.endianness head.len s after) (good : IsGoodLength head.len) where
  -- The bytes after a head make it a block.
  pub tail_text : (b : Framed) (rest : List ℕ) → TailOf head b after rest → FrameText e b s rest
  tail_text b rest t = record {
    number = head.number;
    after = after;
    head = rw (t.endianness_is, t.len_is) text;
    type_is = t.type_is;
    aligned = rw t.len_is good.0;
    tail = rw (t.endianness_is, t.len_is) t.tail;
    same = t.same ∙ sym t.len_is;
  }

  pub tail_differs : TailDiffers head after → LengthsDiffer e s
  tail_differs t = record {
    number = head.number;
    len = head.len;
    trailer = t.trailer;
    own = head.endianness;
    body = t.body;
    after = after;
    rest = t.rest;
    head = text;
    aligned = good.0;
    tail = t.tail;
    differ = t.differ;
  }

module _ (e : Endianness) (head : FrameHead) (n : ℕ) (s : List ℕ) (long : length s ≡ 12) (k : KnowsFrame e head n s) where
  pub frame_lacks : 0 < n → frame_format.says e s (lacks n)
  unfolding frame_format
  frame_lacks some = inr (record { number = head.number; len = head.len; own = head.endianness; after = k.after; head = k.text; good = k.good; some = some; missing = omega (arith, long, k.follows) })

  -- A block of twelve bytes has no body: what follows its length is its length again.
  no_body : n ≡ 0 → FrameTail head.endianness head.len [] (number_in head.endianness 4 k.after) k.after []
  no_body none = record {
    after_body = k.after;
    body_is = refl;
    length_is = omega (arith, none, k.follows);
    trailer_is = record { bytes = k.after; text = sym (append-nil k.after); length_is = omega (arith, long, head_long e head.number head.len head.endianness s k.after k.text); value = refl };
  }

  pub frame_settled : n ≡ 0 → IsSettled (frame_format.says e s)
  unfolding frame_format
  frame_settled none =
      let trailer = number_in head.endianness 4 k.after in
      elim (cases_eq trailer head.len) [
        | inl same ↦
            let b : Framed = record { type_ = block_type head.number; initial_len = head.len; body = []; trailer_len = trailer; endianness = head.endianness } in
            let t : TailOf head b k.after [] = record { type_is = refl; len_is = refl; endianness_is = refl; tail = no_body none; same = same } in
            inl (b, tail_text e head s k.after k.text k.good b [] t)
        | inr differ ↦
            let t : TailDiffers head k.after = record { body = []; trailer = trailer; rest = []; tail = no_body none; differ = differ } in
            inr (Invalid BlockLengthsDiffer, unequal (tail_differs e head s k.after k.text k.good t))
      ]

pub frame_breaks : (e : Endianness) (s : List ℕ) (rule : Rule) → BreaksHead e s rule → frame_format.says e s (faulty (Invalid rule))
unfolding frame_format
frame_breaks e s rule broken = in_head rule broken

-- The length of what follows a head.
pub tail_length : (head : FrameHead) (b : Framed) (s rest : List ℕ) → TailOf head b s rest → length s + 8 ≡ head.len + length rest
tail_length head b s rest t =
    let c = t.tail in
    omega (arith, ap length c.body_is, length-append b.body c.after_body, c.length_is, ap length c.trailer_is.text, length-append c.trailer_is.bytes rest, c.trailer_is.length_is)
