-- Blocks of a capture that comes in pieces.
use Rattle.std.proofs.Common.{◌≡◌, ℕ, List, length, map, refl, sym, ap, ◌∙◌, inl, inr}
use Rattle.std.proofs.lemmas.List.{length-map}
use Rattle.pcap_items.specs.Format.{state_after}
use Rattle.pcap_items.specs.Pieces.{HoldsItems, IsFedUpTo, IsOpening, OpensNone, Reaches}
use Rattle.pcap_items.proofs.Showing.{rest_no_text}
use Rattle.pcap_ng.specs.declared.run.NgRun.{NgRun}
use Rattle.pcap_ng.specs.Blocks.{Item, block_format}
use Rattle.pcap_ng.specs.Frames.{Framed, framed_of}
use Rattle.pcap_ng.specs.Front.{NgFront}
use Rattle.pcap_ng.specs.Opening.{OpeningSays}
use Rattle.pcap_ng.specs.Parser.{state_of}
use Rattle.pcap_ng.specs.Pieces.{HoldsBlocks}
use Rattle.pcap_ng.specs.Run.{IsRun}
use Rattle.pcap_ng.specs.State.{State, opening}
use Rattle.pcap_ng.proofs.BlockFormat.{blocks_lawful}
use Rattle.pcap_ng.proofs.CaptureFronts.{front_same_ng}
use Rattle.pcap_ng.proofs.FirstBlock.{opening_one, opening_stable}
use Rattle.pcap_ng.proofs.Running.{run_front}

pub first_opening : IsOpening OpeningSays
unfolding block_format
first_opening = record {
  one = opening_one;
  stable = opening_stable;
  ends = λ s rest q x. let o = blocks_lawful.own opening s rest (record { block = x.0; after = q }) x.1 in (o.0, o.1);
}

pub holds_blocks : (s : List ℕ) (n : ℕ) → HoldsItems OpeningSays block_format s n → HoldsBlocks s n
unfolding block_format
holds_blocks s n (inl x) =
    let part : Item → Framed = λ item. item.block in
    let now = state_after block_format x.0 x.2 in
    let front = run_front x.0 now (map part x.2) s x.1 x.3 x.4 (record { values = x.2; texts = x.5.texts; parts = refl; state_is = refl }) x.5.longest in
    inl (now, map part x.2, x.3, front, x.6 ∙ sym (length-map x.2 part))
holds_blocks s n (inr x) = inr x

-- A run over all pieces is the run over their bytes.
pub fed_run : (s : List ℕ) (run : NgRun) → IsFedUpTo OpeningSays block_format (λ (item : Item). item.block) (state_of run.parser) s run.rest run.used (map framed_of run.blocks.items) → IsRun run s
fed_run s run x =
    let r : Reaches OpeningSays block_format (λ (item : Item). item.block) (state_of run.parser) (map framed_of run.blocks.items) s x.left = x.reaches in
    record {
      left = x.left;
      front = run_front r.first (state_of run.parser) (map framed_of run.blocks.items) s r.after x.left r.opening r.leads (rest_no_text block_format blocks_lawful (state_of run.parser) x.left run.rest x.rest_is);
      used = x.used_is;
      rest = x.rest_is;
    }

-- Bytes that have a front have a first block.
front_opens : (q : State) (blocks : List Framed) (s rest : List ℕ) → NgFront q blocks s rest → OpensNone OpeningSays s → ⊥
unfolding block_format
front_opens q blocks s rest front none = none front.first.after front.front.texts.0 (front.first.block, front.front.texts.1)

-- The number of blocks in given bytes is unique.
pub blocks_held_same : (s : List ℕ) (n m : ℕ) → HoldsBlocks s n → HoldsBlocks s m → n ≡ m
blocks_held_same s n m (inl x) (inl y) =
    let same = front_same_ng x.0 y.0 x.1 y.1 s x.2 y.2 x.3 y.3 in
    x.4 ∙ ap length same.1 ∙ sym y.4
blocks_held_same s n m (inl x) (inr y) = absurd (front_opens x.0 x.1 s x.2 x.3 y.0)
blocks_held_same s n m (inr x) (inl y) = absurd (front_opens y.0 y.1 s y.2 y.3 x.0)
blocks_held_same s n m (inr x) (inr y) = x.1 ∙ sym y.1
