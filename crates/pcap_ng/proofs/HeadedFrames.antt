-- Frames are a lawful format: twelve bytes that determine how many bytes follow, and these bytes.
use Rattle.std.proofs.Common.{◌≡◌, ℕ, ◌+◌, ◌-◌, ◌<◌, ◌≤◌, List, ◌++◌, length, take, drop, Option, Some, None, refl, sym, ap, subst, ◌∙◌, arith, append_assoc, length-append, inl, inr}
use Rattle.std.specs.Prelude.{◌≢◌, ◌%◌, ◌⊎◌}
use Rattle.std.proofs.lemmas.Bool.{cases_lt, cases_eq}
use Rattle.std.proofs.lemmas.List.{length-take, length-drop, take-append-drop, take_at, drop_at}
use Rattle.byteorder.specs.Endian.{big_number}
use Rattle.pcap_core.specs.declared.common.Endianness.{Endianness}
use Rattle.pcap_core.specs.declared.rules.Rule.TheVariants.{SectionMagic, BlockUnaligned, BlockTooShort, BlockLengthsDiffer}
use Rattle.pcap_core.specs.Answer.{Number, number_in, Verdict, whole, lacks, faulty}
use Rattle.pcap_core.specs.Faults.{Fault, Invalid}
use Rattle.pcap_core.specs.Laws.{ExactlyOne}
use Rattle.pcap_items.specs.Format.{IsLawful}
use Rattle.pcap_items.specs.Headed.{Piece, HeadReading, good, bad, Headed, HeadedSays, headed, IsHeaded}
use Rattle.pcap_items.proofs.Formats.{lawful_moved, beginning}
use Rattle.pcap_items.proofs.Headed.{headed_lawful}
use Rattle.pcap_blocks.specs.declared.block_type.BlockType.{BlockType}
use Rattle.pcap_blocks.specs.BlockType.{block_type}
use Rattle.pcap_ng.specs.Frames.{Framed, own_order, FrameHeadText, NoOrder, no_order, unaligned, too_short, FrameTail, FrameText, LengthsDiffer, FrameFault, in_head, unequal, FrameSays, frame_format}

-- A good head, and the four bytes after its length.
record Head : Type 0 where
  number : ℕ
  own : Endianness
  len : ℕ
  third : List ℕ

-- The reading of a head by its length.
LengthReads : Head → HeadReading Head → Type 0
LengthReads x (good y) = (y ≡ x) × (x.len % 4 ≡ 0) × (12 ≤ x.len)
LengthReads x (bad f) = ((f ≡ Invalid BlockUnaligned) × (x.len % 4 ≢ 0)) ⊎ ((f ≡ Invalid BlockTooShort) × (x.len % 4 ≡ 0) × (x.len < 12))

length_there : (x : Head) → (r : HeadReading Head) × LengthReads x r
unfolding LengthReads
length_there x =
    elim (cases_eq (x.len % 4) 0) [
      | inr odd ↦ (bad (Invalid BlockUnaligned), inl (refl, odd))
      | inl fours ↦ elim (cases_lt x.len 12) [
        | inl less ↦ (bad (Invalid BlockTooShort), inr (refl, fours, less))
        | inr long ↦ (good x, (refl, fours, long))
      ]
    ]

length_only : (x : Head) (r t : HeadReading Head) → LengthReads x r → LengthReads x t → r ≡ t
unfolding LengthReads
length_only x (good y) (good z) h k = let e : y ≡ z = h.0 ∙ sym k.0 in rw e refl
length_only x (good y) (bad f) h (inl k) = absurd (k.1 h.1)
length_only x (good y) (bad f) h (inr k) = absurd (omega (arith, h.2, k.2))
length_only x (bad f) (good y) (inl h) k = absurd (h.1 k.1)
length_only x (bad f) (good y) (inr h) k = absurd (omega (arith, h.2, k.2))
length_only x (bad f) (bad g) (inl h) (inl k) = rw (h.0, k.0) refl
length_only x (bad f) (bad g) (inl h) (inr k) = absurd (h.1 k.1)
length_only x (bad f) (bad g) (inr h) (inl k) = absurd (k.1 h.1)
length_only x (bad f) (bad g) (inr h) (inr k) = rw (h.0, k.0) refl

head_with : ℕ → Endianness → List ℕ → List ℕ → Head
head_with number own l third = record { number = number; own = own; len = number_in own 4 l; third = third }

-- The reading of a head by its byte order, if it has one, and by the length in that order.
OrderReads : Option Endianness → ℕ → List ℕ → List ℕ → HeadReading Head → Type 0
OrderReads None number l third r = r ≡ bad (Invalid SectionMagic)
OrderReads (Some own) number l third r = LengthReads (head_with number own l third) r

order_one : (o : Option Endianness) (number : ℕ) (l third : List ℕ) → ExactlyOne (OrderReads o number l third)
unfolding OrderReads
order_one None number l third = record { value = bad (Invalid SectionMagic); holds = refl; only = λ w k. k }
order_one (Some own) number l third =
    let there = length_there (head_with number own l third) in
    record { value = there.0; holds = there.1; only = λ w k. length_only (head_with number own l third) w there.0 k there.1 }

-- The reading of twelve bytes by their three numbers.
HeadReads : Endianness → List ℕ → HeadReading Head → Type 0
HeadReads e b = OrderReads (own_order e (number_in e 4 (take 4 b)) (big_number 4 (drop 4 (drop 4 b)))) (number_in e 4 (take 4 b)) (take 4 (drop 4 b)) (drop 4 (drop 4 b))

-- The block with this head and these bytes.
framed_by : Head → List ℕ → Framed
framed_by x m = record {
  type_ = block_type x.number;
  initial_len = x.len;
  body = take (x.len - 12) (x.third ++ m);
  trailer_len = number_in x.own 4 (drop (x.len - 12) (x.third ++ m));
  endianness = x.own;
}

RestReads : Head → List ℕ → HeadReading Framed → Type 0
RestReads x m (good b) = (b ≡ framed_by x m) × (number_in x.own 4 (drop (x.len - 12) (x.third ++ m)) ≡ x.len)
RestReads x m (bad f) = (f ≡ Invalid BlockLengthsDiffer) × (number_in x.own 4 (drop (x.len - 12) (x.third ++ m)) ≢ x.len)

rest_only : (x : Head) (m : List ℕ) (r t : HeadReading Framed) → RestReads x m r → RestReads x m t → r ≡ t
unfolding RestReads
rest_only x m (good y) (good z) h k = let e : y ≡ z = h.0 ∙ sym k.0 in rw e refl
rest_only x m (good y) (bad f) h k = absurd (k.1 h.1)
rest_only x m (bad f) (good y) h k = absurd (h.1 k.1)
rest_only x m (bad f) (bad g) h k = rw (h.0, k.0) refl

rest_there : (x : Head) (m : List ℕ) → (r : HeadReading Framed) × RestReads x m r
unfolding RestReads
rest_there x m =
    elim (cases_eq (number_in x.own 4 (drop (x.len - 12) (x.third ++ m))) x.len) [
      | inl same ↦ (good (framed_by x m), (refl, same))
      | inr differ ↦ (bad (Invalid BlockLengthsDiffer), (refl, differ))
    ]

headed_frames : Headed Endianness Head Framed
headed_frames = record {
  head = λ e. 12;
  reads = HeadReads;
  size = λ x. x.len - 12;
  means = λ e. RestReads;
  goes = λ e b. e;
}

headed_frames_lawful : IsLawful (headed headed_frames)
unfolding headed_frames HeadReads
headed_frames_lawful =
    let is : IsHeaded headed_frames = record {
      some = λ q. omega arith;
      heads = λ e b count. order_one (own_order e (number_in e 4 (take 4 b)) (big_number 4 (drop 4 (drop 4 b)))) (number_in e 4 (take 4 b)) (take 4 (drop 4 b)) (drop 4 (drop 4 b));
      bodies = λ e x m count. let there = rest_there x m in record { value = there.0; holds = there.1; only = λ w k. rest_only x m w there.0 k there.1 };
    } in
    headed_lawful headed_frames is

-- ---- The readable definitions agree with the readings.

-- The reading of twelve bytes by their parts.
reads_parts : (e : Endianness) (a l c : List ℕ) (r : HeadReading Head) → length a ≡ 4 → length l ≡ 4 → OrderReads (own_order e (number_in e 4 a) (big_number 4 c)) (number_in e 4 a) l c r → HeadReads e (a ++ (l ++ c)) r
unfolding HeadReads
reads_parts e a l c r wide long h = rw (take_at a (l ++ c) 4 wide, drop_at a (l ++ c) 4 wide, take_at l c 4 long, drop_at l c 4 long) h

parts_text : (s a b c r1 r2 r3 : List ℕ) → s ≡ a ++ r1 → r1 ≡ b ++ r2 → r2 ≡ c ++ r3 → s ≡ (a ++ (b ++ c)) ++ r3
parts_text s a b c r1 r2 r3 x y z = rw (x, y, z) (simp append_assoc)

parts_length : (a b c : List ℕ) → length a ≡ 4 → length b ≡ 4 → length c ≡ 4 → length (a ++ (b ++ c)) ≡ 12
parts_length a b c x y z = omega (arith, length-append a (b ++ c), length-append b c, x, y, z)

-- The text of a head is twelve bytes that are read as a head.
head_piece : (e : Endianness) (number len : ℕ) (own : Endianness) (s after : List ℕ) (t : FrameHeadText e number own len s after) (r : HeadReading Head)
    → LengthReads (record { number = number; own = own; len = len; third = t.magic_is.bytes }) r → Piece 12 (λ b. HeadReads e b r) s t.more
unfolding OrderReads head_with
head_piece e number len own s after t r h =
    let a = t.number_is.bytes in
    let l = t.len_is.bytes in
    let c = t.magic_is.bytes in
    let here : LengthReads (head_with number own l c) r = subst (λ (n : ℕ). LengthReads (record { number = number; own = own; len = n; third = c }) r) (sym t.len_is.value) h in
    let named : OrderReads (own_order e number t.magic) number l c r = rw t.own_is here in
    let there : OrderReads (own_order e (number_in e 4 a) (big_number 4 c)) (number_in e 4 a) l c r = rw (t.number_is.value, t.magic_is.value) named in
    record {
      bytes = a ++ (l ++ c);
      text = parts_text s a l c t.after_number after t.more t.number_is.text t.len_is.text t.magic_is.text;
      length_is = parts_length a l c t.number_is.length_is t.len_is.length_is t.magic_is.length_is;
      holds = reads_parts e a l c r t.number_is.length_is t.len_is.length_is there;
    }

no_order_piece : (e : Endianness) (s : List ℕ) (t : NoOrder e s) → Piece 12 (λ b. HeadReads e b (bad (Invalid SectionMagic))) s t.more
unfolding OrderReads
no_order_piece e s t =
    let a = t.number_is.bytes in
    let l = t.len_is.bytes in
    let c = t.magic_is.bytes in
    let r : HeadReading Head = bad (Invalid SectionMagic) in
    let same : OrderReads None t.number l c r = refl in
    let named : OrderReads (own_order e t.number t.magic) t.number l c r = rw t.none same in
    let there : OrderReads (own_order e (number_in e 4 a) (big_number 4 c)) (number_in e 4 a) l c r = rw (t.number_is.value, t.magic_is.value) named in
    record {
      bytes = a ++ (l ++ c);
      text = parts_text s a l c t.after_number t.after t.more t.number_is.text t.len_is.text t.magic_is.text;
      length_is = parts_length a l c t.number_is.length_is t.len_is.length_is t.magic_is.length_is;
      holds = reads_parts e a l c r t.number_is.length_is t.len_is.length_is there;
    }

-- The parts of twelve bytes that are read.
record Raw (b : List ℕ) : Type 0 where
  text : b ≡ take 4 b ++ (take 4 (drop 4 b) ++ drop 4 (drop 4 b))
  first : length (take 4 b) ≡ 4
  second : length (take 4 (drop 4 b)) ≡ 4
  third : length (drop 4 (drop 4 b)) ≡ 4

raw_there : (b : List ℕ) → length b ≡ 12 → Raw b
raw_there b count = record {
  text = sym (ap (λ (t : List ℕ). take 4 b ++ t) (take-append-drop 4 (drop 4 b)) ∙ take-append-drop 4 b);
  first = length-take 4 b ∙ omega (arith, count);
  second = length-take 4 (drop 4 b) ∙ omega (arith, length-drop 4 b, count);
  third = length-drop 4 (drop 4 b) ∙ omega (arith, length-drop 4 b, count);
}

order_good : (o : Option Endianness) (number : ℕ) (l third : List ℕ) (x : Head) → OrderReads o number l third (good x) → (o ≡ Some x.own) × (x.number ≡ number) × (x.len ≡ number_in x.own 4 l) × (x.third ≡ third) × (x.len % 4 ≡ 0) × (12 ≤ x.len)
unfolding OrderReads LengthReads head_with
order_good None number l third x h = absurd cc
order_good (Some own) number l third x h = rw h.0 (refl, refl, refl, refl, h.1, h.2)

order_bad : (o : Option Endianness) (number : ℕ) (l third : List ℕ) (f : Fault) → OrderReads o number l third (bad f)
    → ((o ≡ None) × (f ≡ Invalid SectionMagic)) ⊎ ((own : Endianness) × (o ≡ Some own) × (((f ≡ Invalid BlockUnaligned) × (number_in own 4 l % 4 ≢ 0)) ⊎ ((f ≡ Invalid BlockTooShort) × (number_in own 4 l % 4 ≡ 0) × (number_in own 4 l < 12))))
unfolding OrderReads LengthReads head_with
order_bad None number l third f h = let e : f ≡ Invalid SectionMagic = cc in inl (refl, e)
order_bad (Some own) number l third f h = inr (own, refl, h)

number_put : (order : ℕ → List ℕ → ℕ) (b rest : List ℕ) (n : ℕ) → length b ≡ 4 → order 4 b ≡ n → Number order 4 n (b ++ rest) rest
number_put order b rest n wide is = record { bytes = b; text = refl; length_is = wide; value = is }

raw_text : (s b more : List ℕ) → Raw b → s ≡ b ++ more → s ≡ take 4 b ++ (take 4 (drop 4 b) ++ (drop 4 (drop 4 b) ++ more))
raw_text s b more raw text = text ∙ ap (λ (t : List ℕ). t ++ more) raw.text ∙ append_assoc (take 4 b) (take 4 (drop 4 b) ++ drop 4 (drop 4 b)) more ∙ ap (λ (t : List ℕ). take 4 b ++ t) (append_assoc (take 4 (drop 4 b)) (drop 4 (drop 4 b)) more)

head_put : (e own : Endianness) (s b more : List ℕ) (raw : Raw b) → s ≡ b ++ more → own_order e (number_in e 4 (take 4 b)) (big_number 4 (drop 4 (drop 4 b))) ≡ Some own
    → FrameHeadText e (number_in e 4 (take 4 b)) own (number_in own 4 (take 4 (drop 4 b))) s (drop 4 (drop 4 b) ++ more)
head_put e own s b more raw text is = record {
  after_number = take 4 (drop 4 b) ++ (drop 4 (drop 4 b) ++ more);
  more = more;
  magic = big_number 4 (drop 4 (drop 4 b));
  number_is = record { bytes = take 4 b; text = raw_text s b more raw text; length_is = raw.first; value = refl };
  len_is = number_put (number_in own) (take 4 (drop 4 b)) (drop 4 (drop 4 b) ++ more) (number_in own 4 (take 4 (drop 4 b))) raw.second refl;
  magic_is = number_put big_number (drop 4 (drop 4 b)) more (big_number 4 (drop 4 (drop 4 b))) raw.third refl;
  own_is = is;
}

head_again : (e : Endianness) (x : Head) (s more : List ℕ) → Piece 12 (λ b. HeadReads e b (good x)) s more → FrameHeadText e x.number x.own x.len s (x.third ++ more) × (x.len % 4 ≡ 0) × (12 ≤ x.len) × (length x.third ≡ 4)
unfolding HeadReads
head_again e x s more p =
    let b = p.bytes in
    let raw = raw_there b p.length_is in
    let o = order_good _ _ _ _ x p.holds in
    (rw (o.1, o.2, o.3) (head_put e x.own s b more raw p.text o.0), o.4, o.5, ap length o.3 ∙ raw.third)

breaks_again : (e : Endianness) (f : Fault) (s more : List ℕ) → Piece 12 (λ b. HeadReads e b (bad f)) s more → FrameFault e s f
unfolding HeadReads
breaks_again e f s more p =
    let b = p.bytes in
    let raw = raw_there b p.length_is in
    let l = take 4 (drop 4 b) in
    let c = drop 4 (drop 4 b) in
    elim (order_bad _ _ _ _ f p.holds) [
      | inl none ↦
          let t : NoOrder e s = record {
            number = number_in e 4 (take 4 b);
            magic = big_number 4 c;
            after_number = l ++ (c ++ more);
            after = c ++ more;
            more = more;
            number_is = record { bytes = take 4 b; text = raw_text s b more raw p.text; length_is = raw.first; value = refl };
            len_is = record { bytes = l; text = refl; length_is = raw.second };
            magic_is = number_put big_number c more (big_number 4 c) raw.third refl;
            none = none.0;
          } in
          rw none.1 (in_head SectionMagic (no_order t))
      | inr some ↦
          let t = head_put e some.0 s b more raw p.text some.1 in
          elim some.2 [
            | inl odd ↦ rw odd.0 (in_head BlockUnaligned (unaligned _ _ _ _ t odd.1))
            | inr less ↦ rw less.0 (in_head BlockTooShort (too_short _ _ _ _ t less.1 less.2))
          ]
    ]

make_framed : BlockType → ℕ → List ℕ → ℕ → Endianness → Framed
make_framed type len body trailer own = record { type_ = type; initial_len = len; body = body; trailer_len = trailer; endianness = own }

framed_is : (b : Framed) (type : BlockType) (body : List ℕ) (trailer : ℕ) → b.type_ ≡ type → body ≡ b.body → trailer ≡ b.trailer_len
    → b ≡ record { type_ = type; initial_len = b.initial_len; body = body; trailer_len = trailer; endianness = b.endianness }
unfolding make_framed
framed_is b type body trailer x y z = let e : make_framed b.type_ b.initial_len b.body b.trailer_len b.endianness ≡ make_framed type b.initial_len body trailer b.endianness = rw (x, y, z) refl in e

-- The body and the trailing length, as bytes after the first four.
record Cut (third more body tail rest : List ℕ) : Type 0 where
  m : List ℕ
  text : more ≡ m ++ rest
  count : length m ≡ length body
  front : third ++ m ≡ body ++ tail

cut_there : (third more after body after_body tail rest : List ℕ) → length third ≡ 4 → length tail ≡ 4 → after ≡ third ++ more → after ≡ body ++ after_body → after_body ≡ tail ++ rest → Cut third more body tail rest
cut_there third more after body after_body tail rest wide four x y z =
    let joined : third ++ more ≡ (body ++ tail) ++ rest = sym x ∙ y ∙ ap (λ (t : List ℕ). body ++ t) z ∙ sym (append_assoc body tail rest) in
    let c = beginning third more (body ++ tail) rest joined (omega (arith, length-append body tail, wide, four)) in
    record {
      m = c.0;
      text = c.2;
      count = omega (arith, ap length c.1, length-append third c.0, length-append body tail, wide, four);
      front = sym c.1;
    }

module _ (e : Endianness) where
  good_piece : (number len : ℕ) (own : Endianness) (s after : List ℕ) (t : FrameHeadText e number own len s after) → len % 4 ≡ 0 → 12 ≤ len
      → Piece 12 (λ b. HeadReads e b (good (record { number = number; own = own; len = len; third = t.magic_is.bytes }))) s t.more
  unfolding LengthReads
  good_piece number len own s after t fours long = head_piece e number len own s after t (good (record { number = number; own = own; len = len; third = t.magic_is.bytes })) (refl, fours, long)

  fault_to : (s : List ℕ) (f : Fault) → FrameFault e s f → HeadedSays headed_frames e s (faulty f)
  unfolding headed_frames LengthReads RestReads
  fault_to s _ (in_head _ (no_order t)) = inr (inl (t.more, no_order_piece e s t))
  fault_to s _ (in_head _ (unaligned number len own after t odd)) = inr (inl (t.more, head_piece e number len own s after t (bad (Invalid BlockUnaligned)) (inl (refl, odd))))
  fault_to s _ (in_head _ (too_short number len own after t fours less)) = inr (inl (t.more, head_piece e number len own s after t (bad (Invalid BlockTooShort)) (inr (refl, fours, less))))
  fault_to s _ (unequal t) =
      let h = t.head in
      let third = h.magic_is.bytes in
      let tail = t.tail.trailer_is.bytes in
      let x : Head = record { number = t.number; own = t.own; len = t.len; third = third } in
      let c = cut_there third h.more t.after t.body t.tail.after_body tail t.rest h.magic_is.length_is t.tail.trailer_is.length_is h.magic_is.text t.tail.body_is t.tail.trailer_is.text in
      let size : length t.body ≡ t.len - 12 = omega (arith, t.tail.length_is) in
      let tail_is : drop (t.len - 12) (third ++ c.m) ≡ tail = ap (drop (t.len - 12)) c.front ∙ drop_at t.body tail (t.len - 12) size in
      let trailer : number_in t.own 4 (drop (t.len - 12) (third ++ c.m)) ≡ t.trailer = ap (number_in t.own 4) tail_is ∙ t.tail.trailer_is.value in
      inr (inr (
        x,
        h.more,
        good_piece t.number t.len t.own s t.after h t.aligned (omega (arith, t.tail.length_is)),
        (t.rest, record { bytes = c.m; text = c.text; length_is = c.count ∙ size; holds = (refl, λ same. t.differ (sym trailer ∙ same)) }),
      ))

  frame_to : (s : List ℕ) (v : Verdict Framed) → FrameSays e s v → HeadedSays headed_frames e s v
  unfolding headed_frames RestReads framed_by
  frame_to s (whole b rest) t =
      let h = t.head in
      let third = h.magic_is.bytes in
      let tail = t.tail.trailer_is.bytes in
      let x : Head = record { number = t.number; own = b.endianness; len = b.initial_len; third = third } in
      let c = cut_there third h.more t.after b.body t.tail.after_body tail rest h.magic_is.length_is t.tail.trailer_is.length_is h.magic_is.text t.tail.body_is t.tail.trailer_is.text in
      let n = b.initial_len - 12 in
      let size : length b.body ≡ n = omega (arith, t.tail.length_is) in
      let tail_is : drop n (third ++ c.m) ≡ tail = ap (drop n) c.front ∙ drop_at b.body tail n size in
      let body_is : take n (third ++ c.m) ≡ b.body = ap (take n) c.front ∙ take_at b.body tail n size in
      let trailer : number_in b.endianness 4 (drop n (third ++ c.m)) ≡ b.trailer_len = ap (number_in b.endianness 4) tail_is ∙ t.tail.trailer_is.value in
      inr (inr (
        x,
        h.more,
        good_piece t.number b.initial_len b.endianness s t.after h t.aligned (omega (arith, t.tail.length_is)),
        record {
          bytes = c.m;
          text = c.text;
          length_is = c.count ∙ size;
          holds = (framed_is b (block_type t.number) (take n (third ++ c.m)) (number_in b.endianness 4 (drop n (third ++ c.m))) t.type_is body_is trailer, trailer ∙ t.same);
        },
      ))
  frame_to s (lacks n) (inl t) = inl t
  frame_to s (lacks n) (inr t) =
      let h = t.head in
      let p = good_piece t.number t.len t.own s t.after h t.good.0 t.good.1 in
      inr (inr (record { number = t.number; own = t.own; len = t.len; third = h.magic_is.bytes }, h.more, p, (t.some, omega (arith, t.missing, t.good.1, ap length p.text, length-append p.bytes h.more, p.length_is))))
  frame_to s (faulty f) t = fault_to s f t

  -- The bytes after a head are a body and a length.
  tail_again : (x : Head) (more m rest : List ℕ) → 12 ≤ x.len → length x.third ≡ 4 → more ≡ m ++ rest → length m ≡ x.len - 12
      → FrameTail x.own x.len (take (x.len - 12) (x.third ++ m)) (number_in x.own 4 (drop (x.len - 12) (x.third ++ m))) (x.third ++ more) rest
  tail_again x more m rest long wide text count =
      let n = x.len - 12 in
      let all = x.third ++ m in
      let size : length all ≡ 4 + n = omega (arith, length-append x.third m, wide, count) in
      record {
        after_body = drop n all ++ rest;
        body_is = ap (λ (t : List ℕ). x.third ++ t) text ∙ sym (append_assoc x.third m rest) ∙ ap (λ (t : List ℕ). t ++ rest) (sym (take-append-drop n all)) ∙ append_assoc (take n all) (drop n all) rest;
        length_is = sym (ap (λ (k : ℕ). k + 12) (length-take n all) ∙ omega (arith, size, long));
        trailer_is = number_put (number_in x.own) (drop n all) rest (number_in x.own 4 (drop n all)) (length-drop n all ∙ omega (arith, size)) refl;
      }

  -- A head and the bytes after it are a frame.
  frame_again : (x : Head) (s more m rest : List ℕ) → FrameHeadText e x.number x.own x.len s (x.third ++ more) → x.len % 4 ≡ 0 → 12 ≤ x.len → length x.third ≡ 4 → more ≡ m ++ rest → length m ≡ x.len - 12
      → number_in x.own 4 (drop (x.len - 12) (x.third ++ m)) ≡ x.len → FrameText e (framed_by x m) s rest
  unfolding framed_by
  frame_again x s more m rest head fours long wide text count same =
      record {
        number = x.number;
        after = x.third ++ more;
        head = head;
        type_is = refl;
        aligned = fours;
        tail = tail_again x more m rest long wide text count;
        same = same;
      }

  differ_again : (x : Head) (s more m rest : List ℕ) → FrameHeadText e x.number x.own x.len s (x.third ++ more) → x.len % 4 ≡ 0 → 12 ≤ x.len → length x.third ≡ 4 → more ≡ m ++ rest → length m ≡ x.len - 12
      → number_in x.own 4 (drop (x.len - 12) (x.third ++ m)) ≢ x.len → LengthsDiffer e s
  differ_again x s more m rest head fours long wide text count differ =
      record {
        number = x.number;
        len = x.len;
        trailer = number_in x.own 4 (drop (x.len - 12) (x.third ++ m));
        own = x.own;
        body = take (x.len - 12) (x.third ++ m);
        after = x.third ++ more;
        rest = rest;
        head = head;
        aligned = fours;
        tail = tail_again x more m rest long wide text count;
        differ = differ;
      }

  frame_from : (s : List ℕ) (v : Verdict Framed) → HeadedSays headed_frames e s v → FrameSays e s v
  unfolding headed_frames RestReads
  frame_from s (whole b rest) (inl t) = absurd t
  frame_from s (whole b rest) (inr (inl t)) = absurd t
  frame_from s (whole b rest) (inr (inr t)) =
      let h = head_again e t.0 s t.1 t.2 in
      let m = t.3 in
      subst (λ (f : Framed). FrameText e f s rest) (sym m.holds.0) (frame_again t.0 s t.1 m.bytes rest h.0 h.1 h.2 h.3 m.text m.length_is m.holds.1)
  frame_from s (lacks n) (inl t) = inl t
  frame_from s (lacks n) (inr (inl t)) = absurd t
  frame_from s (lacks n) (inr (inr t)) =
      let h = head_again e t.0 s t.1 t.2 in
      inr (record {
        number = (t.0).number;
        len = (t.0).len;
        own = (t.0).own;
        after = (t.0).third ++ t.1;
        head = h.0;
        good = (h.1, h.2);
        some = t.3.0;
        missing = omega (arith, t.3.1, h.2, ap length (t.2).text, length-append (t.2).bytes t.1, (t.2).length_is);
      })
  frame_from s (faulty f) (inl t) = absurd t
  frame_from s (faulty f) (inr (inl t)) = breaks_again e f s t.0 t.1
  frame_from s (faulty f) (inr (inr t)) =
      let h = head_again e t.0 s t.1 t.2 in
      let m = t.3.1 in
      rw (m.holds.0) (unequal (differ_again t.0 s t.1 m.bytes t.3.0 h.0 h.1 h.2 h.3 m.text m.length_is m.holds.1))

pub frames_lawful : IsLawful frame_format
unfolding frame_format headed_frames
frames_lawful = lawful_moved (headed headed_frames) frame_format (λ e. refl) (λ e s v. frame_from e s v) (λ e s v. frame_to e s v) headed_frames_lawful

pub frame_one : (e : Endianness) (s : List ℕ) → ExactlyOne (FrameSays e s)
unfolding frame_format
frame_one = frames_lawful.one
