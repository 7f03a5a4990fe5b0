-- Bytes that begin with a first block have exactly one front.
use Rattle.std.proofs.Common.{◌≡◌, ℕ, List, ◌∷◌, map, refl, sym, ap, ◌∙◌}
use Rattle.pcap_core.specs.Answer.{whole}
use Rattle.pcap_items.specs.Format.{state_after, Front}
use Rattle.pcap_core.specs.Laws.{ExactlyOne}
use Rattle.pcap_items.proofs.Formats.{front_same, has_front, triple_same}
use Rattle.pcap_ng.specs.Blocks.{Item, block_format}
use Rattle.pcap_ng.specs.Frames.{Framed}
use Rattle.pcap_ng.specs.Front.{NgFront}
use Rattle.pcap_ng.specs.Opening.{OpeningSays}
use Rattle.pcap_ng.specs.State.{State, opening}
use Rattle.pcap_ng.proofs.BlockFormat.{blocks_lawful, block_said}

tail_same : (first other : Item) (items others : List Item) → first ∷ items ≡ other ∷ others → items ≡ others
tail_same first other items others e = cc

pub front_same_ng : (q p : State) (bs cs : List Framed) (s a b : List ℕ) → NgFront q bs s a → NgFront p cs s b → (q ≡ p) × (bs ≡ cs) × (a ≡ b)
front_same_ng q p bs cs s a b x y =
    let d = front_same block_format blocks_lawful opening (x.first ∷ x.items) (y.first ∷ y.items) s a b x.front y.front in
    let tails = tail_same x.first y.first x.items y.items d.0 in (
      sym x.in_force ∙ ap (state_after block_format opening) d.0 ∙ y.in_force,
      sym x.blocks_are ∙ ap (map (λ (item : Item). item.block)) tails ∙ y.blocks_are,
      d.1,
    )

pub capture_one : (q : State) (s after : List ℕ) → OpeningSays s (whole q after) → ExactlyOne (λ (p : State × List Framed × List ℕ). NgFront p.0 p.1 s p.2)
capture_one q s after text =
    let first : Item = record { block = text.0; after = q } in
    let there = has_front block_format blocks_lawful (block_format.goes opening first) after in
    let reached = state_after block_format opening (first ∷ there.0) in
    let blocks = map (λ (item : Item). item.block) there.0 in
    let whole_front : Front block_format opening (first ∷ there.0) s there.1 = record { texts = (after, block_said opening first s after text.1, there.2.texts); longest = there.2.longest } in
    let front : NgFront reached blocks s there.1 = record { first = first; items = there.0; front = whole_front; blocks_are = refl; in_force = refl } in
    record {
      value = (reached, blocks, there.1);
      holds = front;
      only = λ other x. triple_same other (reached, blocks, there.1) (front_same_ng other.0 reached other.1 blocks s other.2 there.1 x front);
    }
