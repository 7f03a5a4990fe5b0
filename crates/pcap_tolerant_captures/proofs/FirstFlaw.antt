-- The first flawed block of a list, and the number of bytes that blocks take.
use Rattle.std.proofs.Common.{◌≡◌, ◌<◌, ◌≤◌, ◌-◌, ℕ, suc, ◌+◌, Bool, true, false, cond, List, [], ◌∷◌, length, map, take, Option, Some, None, refl, sym, ap, ◌∙◌, arith, length-append, subst}
use Rattle.std.specs.Prelude.{position, sum_by}
use Rattle.std.specs.List.{position_from}
use Rattle.std.proofs.lemmas.Iterator.Adapters.{position_from-zero}
use Rattle.std.proofs.lemmas.List.Sums.{sum_by-cons}
use Rattle.pcap_core.specs.Answer.{whole}
use Rattle.pcap_items.specs.Format.{Texts}
use Rattle.pcap_items.specs.Items.{LeadsTo}
use Rattle.pcap_ng.specs.Frames.{Framed, FrameText}
use Rattle.pcap_ng.proofs.Frames.{head_long, number_long}
use Rattle.pcap_core.specs.Answer.{number_in}
use Rattle.pcap_core.specs.declared.common.Endianness.{Endianness}
use Rattle.pcap_tolerant_captures.specs.declared.block.BlockAsIs.{BlockAsIs}
use Rattle.pcap_tolerant_captures.specs.Blocks.{Item, AsIsSays, as_is_format, item_of}
use Rattle.pcap_tolerant_captures.specs.Run.{Seen, seen_of, seen_in, size_of, NgFrontAsIs}
use Rattle.pcap_tolerant_captures.specs.State.{State, opening, order_at}

-- ---- the first index at which a test passes

abbrev pub one_more : Option ℕ → Option ℕ
one_more None = None
one_more (Some i) = Some (i + 1)

cond_more : (b : Bool) (i : ℕ) (x y : Option ℕ) → x ≡ one_more y → cond b (Some (i + 1)) x ≡ one_more (cond b (Some i) y)
cond_more true i x y e = refl
cond_more false i x y e = e

position_more : {X : Type 0} (p : X → Bool) (xs : List X) (i : ℕ) → position_from p (i + 1) xs ≡ one_more (position_from p i xs)
position_more p [] i = refl
position_more p (x ∷ xs) i = cond_more (p x) i (position_from p (i + 1 + 1) xs) (position_from p (i + 1) xs) (position_more p xs (i + 1))

pub position_behind : {X : Type 0} (p : X → Bool) (x : X) (xs : List X) → p x ≡ false → position p (x ∷ xs) ≡ one_more (position p xs)
position_behind p x xs failed =
    let here : cond (p x) (Some 0) (position_from p (0 + 1) xs) ≡ one_more (position_from p 0 xs) = rw failed (position_more p xs 0) in
    position_from-zero p (x ∷ xs) ∙ here ∙ ap one_more (sym (position_from-zero p xs))

pub size_behind : (x : BlockAsIs) (xs : List BlockAsIs) (i n : ℕ) → n ≡ sum_by size_of (take i xs) → x.block.initial_len + n ≡ sum_by size_of (take (i + 1) (x ∷ xs))
size_behind x xs i n is =
    let next : i + 1 ≡ suc i = omega arith in
    let cut : sum_by size_of (take (i + 1) (x ∷ xs)) ≡ sum_by size_of (x ∷ take i xs) = ap (λ (k : ℕ). sum_by size_of (take k (x ∷ xs))) next in
    ap (λ (k : ℕ). x.block.initial_len + k) is ∙ sym (sum_by-cons size_of x (take i xs)) ∙ sym cut

-- ---- the number of bytes that blocks take

abbrev seen_size : Seen → ℕ
seen_size x = x.block.initial_len

sizes_seen : {X : Type 0} (see : X → Seen) (xs : List X) → sum_by (λ x. seen_size (see x)) xs ≡ sum_by seen_size (map see xs)
sizes_seen see [] = refl
sizes_seen see (x ∷ xs) = sum_by-cons (λ y. seen_size (see y)) x xs ∙ ap (λ (n : ℕ). seen_size (see x) + n) (sizes_seen see xs) ∙ sym (sum_by-cons seen_size (see x) (map see xs))

pub frame_size : (e : Endianness) (b : Framed) (s rest : List ℕ) → FrameText e b s rest → b.initial_len + length rest ≡ length s
frame_size e b s rest t =
    omega (
      arith,
      head_long e t.number b.initial_len b.endianness s t.after t.head,
      ap length t.tail.body_is,
      length-append b.body t.tail.after_body,
      t.tail.length_is,
      number_long (number_in b.endianness) 4 b.trailer_len t.tail.after_body rest t.tail.trailer_is,
    )

add_up : (total one more left after all : ℕ) → total ≡ one + more → one + after ≡ all → more + left ≡ after → total + left ≡ all
add_up total one more left after all a b c = omega (arith, a, b, c)

texts_size : (q : State) (items : List Item) (s left : List ℕ) → Texts as_is_format q items s left → sum_by (λ (item : Item). seen_size (seen_in item)) items + length left ≡ length s
unfolding as_is_format
texts_size q [] s left texts = let none : sum_by (λ (item : Item). seen_size (seen_in item)) [] ≡ 0 = refl in omega (arith, none, ap length texts)
texts_size q (item ∷ items) s left texts =
    let size : Item → ℕ = λ x. seen_size (seen_in x) in
    add_up (sum_by size (item ∷ items)) item.block.initial_len (sum_by size items) (length left) (length texts.0) (length s) (sum_by-cons size item items) (frame_size (order_at q) item.block s texts.0 texts.1.frame)
    (texts_size item.led.after items texts.0 left texts.2)

pub blocks_size : (q : State) (blocks : List BlockAsIs) (s left : List ℕ) → NgFrontAsIs q (map seen_of blocks) s left → sum_by size_of blocks + length left ≡ length s
blocks_size q blocks s left front =
    let sizes : sum_by size_of blocks ≡ sum_by (λ (item : Item). seen_size (seen_in item)) front.items =
    sizes_seen seen_of blocks ∙ ap (sum_by seen_size) (sym front.blocks_are) ∙ sym (sizes_seen seen_in front.items)
    in ap (λ (n : ℕ). n + length left) sizes ∙ texts_size opening front.items s left front.front.texts

within : (total all after used left : ℕ) → total + left ≡ all → used + left ≡ after → after < all → total ≤ all - after + used
within total all after used left a b c = omega (arith, a, b, c)

-- The blocks take no more than all the bytes that were used.
pub all_used : (q : State) (blocks : List BlockAsIs) (s left : List ℕ) (after used : ℕ) → NgFrontAsIs q (map seen_of blocks) s left → used + length left ≡ after → after < length s
    → sum_by size_of blocks ≤ length s - after + used
all_used q blocks s left after used front used_is less = within (sum_by size_of blocks) (length s) after used (length left) (blocks_size q blocks s left front) used_is less

-- ---- the front of a capture

-- A first item and the blocks behind it, up to a rest that no block begins, are the front.
pub item_front : (item : Item) (last : State) (blocks : List Seen) (s after left : List ℕ) → AsIsSays opening s (whole item after)
    → LeadsTo as_is_format seen_in item.led.after last blocks after left → ((next : Item) (t : List ℕ) → as_is_format.says last left (whole next t) → ⊥) → NgFrontAsIs last (seen_in item ∷ blocks) s left
unfolding as_is_format
item_front item last blocks s after left text leads longest = record {
  items = item ∷ leads.values;
  front = record { texts = (after, text, leads.texts); longest = subst (λ (q : State). (next : Item) (t : List ℕ) → as_is_format.says q left (whole next t) → ⊥) (sym leads.state_is) longest };
  blocks_are = ap (λ (l : List Seen). seen_in item ∷ l) leads.parts;
  in_force = leads.state_is;
}

-- The same for blocks that the code returned.
pub run_front : (first : BlockAsIs) (start last : State) (blocks : List BlockAsIs) (s after left : List ℕ) → AsIsSays opening s (whole (item_of start first) after)
    → LeadsTo as_is_format seen_in start last (map seen_of blocks) after left → ((item : Item) (t : List ℕ) → as_is_format.says last left (whole item t) → ⊥) → NgFrontAsIs last (map seen_of (first ∷ blocks)) s left
run_front first start last blocks s after left text leads longest = item_front (item_of start first) last (map seen_of blocks) s after left text leads longest
