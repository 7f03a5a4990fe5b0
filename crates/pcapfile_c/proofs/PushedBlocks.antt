-- Blocks that are read from the held bytes.
use Rattle.std.proofs.Common.{◌≡◌, ◌-◌, ℕ, ℤ, List, [], ◌++◌, length, take, refl, sym, ap, ◌∙◌, arith, inl, inr, length-drop}
use Rattle.std.proofs.lemmas.List.{length-take-le}
use Rattle.pcap_core.specs.Answer.{whole}
use Rattle.pcap_ng.specs.Blocks.{Item, BlockSays, block_format}
use Rattle.pcap_ng.specs.State.{State}
use Rattle.pcap_ng.proofs.BlockFormat.{blocks_lawful}
use Rattle.pcapfile_values.specs.declared.blocks.PcapfileBlock.{PcapfileBlock}
use Rattle.pcapfile_values.specs.declared.blocks.PcapfileSection.{PcapfileSection}
use Rattle.pcapfile_values.specs.declared.errors.PcapfileError.{PcapfileError}
use Rattle.pcapfile_values.specs.declared.shown.PcapfileBytes.{PcapfileBytes}
use Rattle.pcapfile_c.specs.declared.push.PcapfilePush.{PcapfilePush}
use Rattle.pcapfile_c.specs.Blocks.{TakesBlock, RefusesOrder}
use Rattle.pcapfile_c.specs.Push.{held_in}
use Rattle.pcapfile_c.specs.PushBlocks.{TakesFrontBlock, TakesNextBlock, RefusesNextBlock}
use Rattle.pcapfile_c.specs.Readers.{block_reader}
use Rattle.pcapfile_c.proofs.Pushed.{Found, between_same, held_says, with_rest}

-- What follows the text of a block.
pub block_ends : (q : State) (s rest : List ℕ) (item : Item) → BlockSays q s (whole item rest) → (t : List ℕ) × (s ≡ t ++ rest)
unfolding block_format
block_ends q s rest item x = let o = blocks_lawful.own q s rest item x in (o.0, o.1)

module _ (before : PcapfilePush) (section next : PcapfileSection) (room : List ℕ) (left now : PcapfileBytes) (old block : PcapfileBlock) (error told : PcapfileError) (z : ℤ) (found : Found before room left.bytes.now) where
  front_takes : (q : State) → TakesBlock q (block_reader section left old error) (block_reader next now block told) z → TakesFrontBlock q (block_reader section left.bytes.now old error) (block_reader next now.bytes.now block told) z
  front_takes q (inl x) = inl x
  front_takes q (inr x) = inr (x.0, ap (λ (l : PcapfileBytes). l.bytes.now) x.1, x.2, x.3)

  front_ends : (q : State) (s rest : List ℕ) → TakesFrontBlock q (block_reader section s old error) (block_reader next rest block told) z → (t : List ℕ) × (s ≡ t ++ rest)
  front_ends q s rest (inl x) = block_ends q s rest x.2 x.5
  front_ends q s rest (inr x) = ([], sym x.1)

  -- A block is read from the held bytes.
  pub block_takes : (q : State) → TakesBlock q (block_reader section left old error) (block_reader next now block told) z
      → TakesNextBlock q room (block_reader section before old error) (block_reader next (with_rest before before.header now.bytes.now) block told) z
  block_takes q takes =
      let f = front_takes q takes in
      let ends = front_ends q left.bytes.now now.bytes.now f in
      let held = held_says (λ s rest. TakesFrontBlock q (block_reader section s old error) (block_reader next rest block told) z) before before.header room left.bytes.now now.bytes.now found ends f in
      inl ((held.0, held.1, refl, refl), held.2)

  -- The magic number names no byte order, and all held bytes stay held.
  pub order_refuses : RefusesOrder (block_reader section left old error) (block_reader next now block told) z → RefusesNextBlock room (block_reader section before old error) (block_reader next (with_rest before before.header now.bytes.now) block told) z
  order_refuses x =
      let is : left.bytes.now ≡ held_in before room = found.2 ∙ between_same before.begin before.end room found.0 in
      let long : length now.bytes.now ≡ before.end - before.begin =
      ap (λ (l : PcapfileBytes). length l.bytes.now) x.3 ∙ ap length is ∙ length-drop before.begin (take before.end room) ∙ ap (λ (n : ℕ). n - before.begin) (length-take-le before.end room found.1) in
      let begins : before.end - length now.bytes.now ≡ before.begin = omega (arith, long, found.0) in
      inl ((found.0, found.1), x.0, x.1, rw begins refl, x.2, x.4)
