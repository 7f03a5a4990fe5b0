-- Strict reading of a capture goes on while its blocks have no flaw, and ends at the first flaw.
use Rattle.std.proofs.Common.{◌≡◌, ℕ, List, [], ◌∷◌, ◌++◌, map, refl, sym, ap, subst, ◌∙◌, inl, inr}
use Rattle.std.specs.Prelude.{All}
use Rattle.std.proofs.lemmas.List.Elements.{All-head, All-tail}
use Rattle.pcap_core.specs.Answer.{Verdict, whole, lacks, faulty}
use Rattle.pcap_items.specs.Format.{Format, Front, Texts, state_after}
use Rattle.pcap_items.proofs.Formats.{fault_no_text}
use Rattle.pcap_ng.specs.Blocks as strict_blocks
use Rattle.pcap_ng.specs.Blocks.{BlockSays, block_format}
use Rattle.pcap_ng.specs.Frames.{Framed}
use Rattle.pcap_ng.specs.State as strict
use Rattle.pcap_ng.proofs.BlockFormat.{block_one, blocks_lawful}
use Rattle.pcap_tolerant_blocks.specs.Flaws.{Said}
use Rattle.pcap_tolerant_captures.specs.Blocks.{Item, AsIsSays, as_is_format}
use Rattle.pcap_tolerant_captures.specs.State.{State, opening}
use Rattle.pcap_tolerant_captures.specs.Strict as law
use Rattle.pcap_tolerant_captures.specs.Strict.{as_it_stands}
use Rattle.pcap_tolerant_captures.specs.StrictRun.{IsSound, StrictFrontIs, StrictEndsAt}
use Rattle.pcap_tolerant_captures.proofs.Format.{as_is_one}
use Rattle.pcap_tolerant_captures.proofs.Strict.{strict_is}

-- The strict texts of blocks without a flaw.
record StrictTexts (q : strict.State) (items : List Item) (s left : List ℕ) : Type 0 where
  blocks : List strict_blocks.Item
  texts : Texts block_format q blocks s left
  same : map (λ (b : strict_blocks.Item). b.block) blocks ≡ map (λ (item : Item). item.block) items
  in_force : state_after as_is_format (as_it_stands q) items ≡ as_it_stands (state_after block_format q blocks)

-- The answer of strict reading for a block without a flaw.
sound_block : (q : strict.State) (item : Item) (s after : List ℕ) → AsIsSays (as_it_stands q) s (whole item after) → IsSound item
    → (next : strict.State) × (item.led.after ≡ as_it_stands next) × BlockSays q s (whole (record { block = item.block; after = next }) after)
sound_block q item s after x sound =
    let one = block_one q s in
    let here : law.StrictBlockIs [] item after one.value = subst (λ (l : List Said). law.StrictBlockIs l item after one.value) sound (strict_is q s (whole item after) one.value x one.holds) in
    (here.0, here.1, subst (BlockSays q s) here.2 one.holds)

sound_texts : (q : strict.State) (items : List Item) (s left : List ℕ) → Texts as_is_format (as_it_stands q) items s left → All IsSound items → StrictTexts q items s left
unfolding as_is_format block_format
sound_texts q [] s left texts sound = record { blocks = []; texts = texts; same = refl; in_force = refl }
sound_texts q (item ∷ items) s left texts sound =
    let here = sound_block q item s texts.0 texts.1 (All-head IsSound item items sound) in
    let block : strict_blocks.Item = record { block = item.block; after = here.0 } in
    let tail : Texts as_is_format (as_it_stands here.0) items texts.0 left = subst (λ (p : State). Texts as_is_format p items texts.0 left) here.1 texts.2 in
    let r = sound_texts here.0 items texts.0 left tail (All-tail IsSound item items sound) in
    record {
      blocks = block ∷ r.blocks;
      texts = (texts.0, here.2, r.texts);
      same = ap (λ (l : List Framed). item.block ∷ l) r.same;
      in_force = ap (λ (p : State). state_after as_is_format p items) here.1 ∙ r.in_force;
    }

-- If no block read leniently begins a rest, no strict one does.
strict_none : (q : strict.State) (b : strict_blocks.Item) (s t : List ℕ) (a : Verdict Item) → ((item : Item) (rest : List ℕ) → AsIsSays (as_it_stands q) s (whole item rest) → ⊥)
    → AsIsSays (as_it_stands q) s a → law.StrictIs q a (whole b t) → ⊥
strict_none q b s t (whole item rest) none x said = none item rest x
strict_none q b s t (lacks n) none x said = absurd cc
strict_none q b s t (faulty f) none x (inl said) = absurd cc
strict_none q b s t (faulty f) none x (inr said) = let e : whole b t ≡ faulty said.2 = said.3 in absurd cc

strict_longest : (q : strict.State) (s : List ℕ) → ((item : Item) (rest : List ℕ) → as_is_format.says (as_it_stands q) s (whole item rest) → ⊥)
    → (b : strict_blocks.Item) (t : List ℕ) → block_format.says q s (whole b t) → ⊥
unfolding as_is_format block_format
strict_longest q s none b t x =
    let one = as_is_one (as_it_stands q) s in
    strict_none q b s t one.value none one.holds (strict_is q s one.value (whole b t) one.holds x)

pub sound_front : (items : List Item) (s left : List ℕ) → Front as_is_format opening items s left → All IsSound items → StrictFrontIs items s left
sound_front items s left front sound =
    let r = sound_texts strict.opening items s left front.texts sound in
    record {
      blocks = r.blocks;
      front = record {
        texts = r.texts;
        longest = strict_longest (state_after block_format strict.opening r.blocks) left (λ item rest x. front.longest item rest (subst (λ (p : State). as_is_format.says p left (whole item rest)) (sym r.in_force) x));
      };
      same = r.same;
      in_force = r.in_force;
    }

-- The texts of a list of items are the texts of its first part, and those of the others under the state that the first part leads to.
texts_split : {S V : Type 0} (f : Format S V) (q : S) (vs ws : List V) (s rest : List ℕ) → Texts f q (vs ++ ws) s rest → (mid : List ℕ) × Texts f q vs s mid × Texts f (state_after f q vs) ws mid rest
texts_split f q [] ws s rest texts = (s, refl, texts)
texts_split f q (v ∷ vs) ws s rest texts = let r = texts_split f (f.goes q v) vs ws texts.0 rest texts.2 in (r.0, (texts.0, texts.1, r.1), r.2)

-- The answer of strict reading for a block with a flaw.
flawed_block : (q : strict.State) (item : Item) (first : Said) (more : List Said) (s after : List ℕ) → AsIsSays (as_it_stands q) s (whole item after) → item.led.flaws ≡ first ∷ more → BlockSays q s (faulty first.fault)
flawed_block q item first more s after x flaws =
    let one = block_one q s in
    let here : law.StrictBlockIs (first ∷ more) item after one.value = subst (λ (l : List Said). law.StrictBlockIs l item after one.value) flaws (strict_is q s (whole item after) one.value x one.holds) in
    subst (BlockSays q s) here one.holds

pub strict_ends : (before : List Item) (flawed : Item) (others : List Item) (first : Said) (more : List Said) (s left : List ℕ) → Front as_is_format opening (before ++ flawed ∷ others) s left → All IsSound before
    → flawed.led.flaws ≡ first ∷ more → StrictEndsAt before first.fault s
unfolding as_is_format block_format
strict_ends before flawed others first more s left front sound flaws =
    let split = texts_split as_is_format opening before (flawed ∷ others) s left front.texts in
    let r = sound_texts strict.opening before s split.0 split.1 sound in
    let q = state_after block_format strict.opening r.blocks in
    let here : AsIsSays (as_it_stands q) split.0 (whole flawed split.2.0) = subst (λ (p : State). AsIsSays p split.0 (whole flawed split.2.0)) r.in_force split.2.1 in
    let refused : BlockSays q split.0 (faulty first.fault) = flawed_block q flawed first more split.0 split.2.0 here flaws in
    record {
      stop = split.0;
      texts = split.1;
      strictly = record {
        blocks = r.blocks;
        front = record { texts = r.texts; longest = fault_no_text block_format blocks_lawful q first.fault split.0 refused };
        same = r.same;
        in_force = r.in_force;
      };
      refused = refused;
    }
