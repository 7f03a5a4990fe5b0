-- Blocks read leniently from a capture that comes in pieces.
use Rattle.std.proofs.Common.{◌≡◌, ◌≤◌, ℕ, List, [], ◌∷◌, length, map, refl, sym, ap, subst, ◌∙◌, arith, inl, inr, true}
use Rattle.std.specs.Prelude.{sum_by}
use Rattle.std.proofs.lemmas.List.{length-map}
use Rattle.pcap_items.specs.declared.rest.Rest.{Rest}
use Rattle.pcap_core.specs.declared.common.CowBytes.{CowBytes}
use Rattle.pcap_core.specs.declared.common.CowBytes.TheVariants.{Borrowed, Owned}
use Rattle.pcap_core.specs.Answer.{whole}
use Rattle.pcap_core.specs.Bytes.{IsOwned}
use Rattle.pcap_items.specs.Format.{IsLawful, Texts, state_after}
use Rattle.pcap_items.specs.Items.{LeadsTo}
use Rattle.pcap_items.specs.Pieces.{HoldsItems, IsFedUpTo, IsOpening, OpensNone}
use Rattle.pcap_items.proofs.Formats.{front_same}
use Rattle.pcap_items.proofs.Pieces.{made_opening}
use Rattle.pcap_items.proofs.Showing.{rest_no_text}
use Rattle.pcap_tolerant_captures.specs.declared.block.BlockAsIs.{BlockAsIs}
use Rattle.pcap_tolerant_captures.specs.declared.parser.OpenedAsIs.{OpenedAsIs}
use Rattle.pcap_tolerant_captures.specs.Blocks.{Item, AsIsSays, as_is_format}
use Rattle.pcap_tolerant_captures.specs.Pieces.{FirstSays, HoldsBlocksAsIs, Kept, is_owned, kept_by, kept_format, kept_of}
use Rattle.pcap_tolerant_captures.specs.Run.{Seen, seen_in, seen_of, size_of, NgFrontAsIs}
use Rattle.pcap_tolerant_captures.specs.State.{State, opening, state_of}
use Rattle.pcap_tolerant_captures.proofs.FirstFlaw.{blocks_size, item_front}
use Rattle.pcap_tolerant_captures.proofs.Format.{as_is_lawful, as_is_one, as_is_stable}

pub kept_lawful : IsLawful kept_format
kept_lawful = record {
  one = λ q s. as_is_lawful.one q.state s;
  stable = λ q. as_is_lawful.stable q.state;
  own = λ q s rest item x. as_is_lawful.own q.state s rest item x;
  some = λ q. as_is_lawful.some q.state;
  asks = λ q s n x. as_is_lawful.asks q.state s n x;
  short = λ q s n sum some. as_is_lawful.short q.state s n sum some;
  last = λ q s more n m long x count y. as_is_lawful.last q.state s more n m long x count y;
}

block_opening : IsOpening (AsIsSays opening)
unfolding as_is_format
block_opening = record { one = as_is_one opening; stable = as_is_stable opening; ends = λ s rest item x. let o = as_is_lawful.own opening s rest item x in (o.0, o.1) }

pub first_opening : IsOpening FirstSays
first_opening = made_opening kept_by (AsIsSays opening) block_opening

-- ---- the first block stays, and the others are the same with it as without it

state_kept : (q : Kept) (items : List Item) → (state_after kept_format q items).state ≡ state_after as_is_format q.state items
state_kept q [] = refl
state_kept q (item ∷ items) = state_kept (kept_format.goes q item) items

first_kept : (q : Kept) (items : List Item) → (state_after kept_format q items).first ≡ q.first
first_kept q [] = refl
first_kept q (item ∷ items) = first_kept (kept_format.goes q item) items

owned_kept : (q : Kept) (items : List Item) → (state_after kept_format q items).owned ≡ q.owned
owned_kept q [] = refl
owned_kept q (item ∷ items) = owned_kept (kept_format.goes q item) items

pub owned_true : (bytes : CowBytes) → IsOwned bytes → is_owned bytes ≡ true
owned_true (Borrowed s) owned = absurd owned
owned_true (Owned v) owned = refl

true_owned : (bytes : CowBytes) → is_owned bytes ≡ true → IsOwned bytes
true_owned (Borrowed s) owned = absurd cc
true_owned (Owned v) owned = tt

texts_kept : (q : Kept) (items : List Item) (s rest : List ℕ) → Texts kept_format q items s rest → Texts as_is_format q.state items s rest
texts_kept q [] s rest texts = texts
texts_kept q (item ∷ items) s rest texts = (texts.0, texts.1, texts_kept (kept_format.goes q item) items texts.0 rest texts.2)

-- The front is the first block and the blocks behind it, up to a rest that no block begins.
kept_front : (item : Item) (q next : Kept) (blocks : List Seen) (s after left : List ℕ) → q ≡ kept_by item → AsIsSays opening s (whole item after) → LeadsTo kept_format seen_in q next blocks after left
    → ((v : Item) (t : List ℕ) → as_is_format.says next.state left (whole v t) → ⊥) → NgFrontAsIs next.state (next.first ∷ blocks) s left
kept_front item q next blocks s after left set text leads longest =
    let texts = subst (λ (p : Kept). Texts as_is_format p.state leads.values after left) set (texts_kept q leads.values after left leads.texts) in
    let begun : q.state ≡ item.led.after = ap (λ (p : Kept). p.state) set in
    let state_is : state_after as_is_format item.led.after leads.values ≡ next.state =
    ap (λ (p : State). state_after as_is_format p leads.values) (sym begun) ∙ sym (state_kept q leads.values) ∙ ap (λ (p : Kept). p.state) leads.state_is in
    let first_is : seen_in item ≡ next.first = sym (ap (λ (p : Kept). p.first) set) ∙ sym (first_kept q leads.values) ∙ ap (λ (p : Kept). p.first) leads.state_is in
    let front = item_front item next.state blocks s after left text (record { values = leads.values; texts = texts; parts = leads.parts; state_is = state_is }) longest in
    subst (λ (seen : Seen). NgFrontAsIs next.state (seen ∷ blocks) s left) first_is front

pub holds_as_is : (s : List ℕ) (n : ℕ) → HoldsItems FirstSays kept_format s n → HoldsBlocksAsIs s n
holds_as_is s n (inl x) =
    let last = state_after kept_format x.0 x.2 in
    let blocks = map seen_in x.2 in
    let leads : LeadsTo kept_format seen_in x.0 last blocks x.1 x.3 = record { values = x.2; texts = x.5.texts; parts = refl; state_is = refl } in
    inl (last.state, last.first, blocks, x.3, kept_front x.4.0 x.0 last blocks s x.1 x.3 x.4.1 x.4.2 leads x.5.longest, x.6 ∙ sym (length-map x.2 seen_in))
holds_as_is s n (inr x) = inr (λ item after text. x.0 (kept_by item) after (item, refl, text), x.1)

-- A capture that has a front has a first block.
front_opens : (first : Seen) (blocks : List Seen) (items : List Item) (s rest : List ℕ) → map seen_in items ≡ first ∷ blocks → Texts as_is_format opening items s rest → OpensNone (AsIsSays opening) s → ⊥
unfolding as_is_format
front_opens first blocks [] s rest seen texts none = absurd (omega (arith, ap length seen))
front_opens first blocks (item ∷ items) s rest seen texts none = none item texts.0 texts.1

-- The number of blocks that lenient reading finds in given bytes is unique.
pub held_same : (s : List ℕ) (n m : ℕ) → HoldsBlocksAsIs s n → HoldsBlocksAsIs s m → n ≡ m
held_same s n m (inl x) (inl y) =
    let same = front_same as_is_format as_is_lawful opening x.4.items y.4.items s x.3 y.3 x.4.front y.4.front in
    let all : x.1 ∷ x.2 ≡ y.1 ∷ y.2 = sym x.4.blocks_are ∙ ap (λ (l : List Item). map seen_in l) same.0 ∙ y.4.blocks_are in
    omega (arith, x.5, y.5, ap length all)
held_same s n m (inl x) (inr y) = absurd (front_opens x.1 x.2 x.4.items s x.3 x.4.blocks_are x.4.front.texts y.0)
held_same s n m (inr x) (inl y) = absurd (front_opens y.1 y.2 y.4.items s y.3 y.4.blocks_are y.4.front.texts x.0)
held_same s n m (inr x) (inr y) = x.1 ∙ sym y.1

-- ---- a run over all pieces

module _ (s : List ℕ) (opened : OpenedAsIs) (blocks : List BlockAsIs) (used : ℕ) (rest : Rest) (x : IsFedUpTo FirstSays kept_format seen_in (kept_of opened) s rest used (map seen_of blocks)) where
  pub fed_front : NgFrontAsIs (state_of opened.parser) (map seen_of (opened.first ∷ blocks)) s x.left
  fed_front =
      let r = x.reaches in
      let longest = rest_no_text as_is_format as_is_lawful (state_of opened.parser) x.left rest x.rest_is in
      kept_front r.opening.0 r.first (kept_of opened) (map seen_of blocks) s r.after x.left r.opening.1 r.opening.2 r.leads longest

  pub fed_used : sum_by size_of (opened.first ∷ blocks) ≤ used
  fed_used = omega (arith, blocks_size (state_of opened.parser) (opened.first ∷ blocks) s x.left fed_front, x.used_is)

  pub fed_owned : IsOwned opened.first.block.body
  fed_owned =
      let r = x.reaches in
      true_owned opened.first.block.body (sym (ap (λ (p : Kept). p.owned) r.leads.state_is) ∙ owned_kept r.first r.leads.values ∙ ap (λ (p : Kept). p.owned) r.opening.1)
