-- Lemmas for packet blocks whose end is cut off.
use Rattle.std.proofs.Common.{◌≡◌, ◌≤◌, ◌<◌, ◌+◌, ◌^◌, ◌⊎◌, inl, inr, ℕ, List, ◌++◌, length, drop, Option, Some, None, sym, ap, subst, ◌∙◌, arith, length-append}
use Rattle.std.specs.Prelude.{replicate}
use Rattle.std.proofs.lemmas.List.{length-replicate, length-take}
use Rattle.pcap_core.specs.declared.common.Endianness.{Endianness}
use Rattle.pcap_core.specs.Answer.{Order, Number, number_in}
use Rattle.pcap_core.specs.Padded.{up_to_4}
use Rattle.pcap_core.proofs.Texts.{number_same}
use Rattle.pcap_blocks.specs.declared.block_type.BlockType.{BlockType}
use Rattle.pcap_blocks.specs.BlockType.{block_type}
use Rattle.pcap_tolerant_blocks.specs.declared.sound.OptionsOf.{OptionsOf}
use Rattle.pcap_tolerant_blocks.specs.SoundOptions.{kind_of}
use Rattle.pcapfile_mended.specs.CutOff.{CutBlock, IsNotCut, KeepsOptions, LacksData, data_end, options_behind, padding_after}
use Rattle.pcapfile_mended.proofs.BodiesSaid.{kept_no_longer}

-- The head of a block that was read, and the bytes behind it.
module _ (order : Order) (most : ℕ) (s : List ℕ) (number stated : ℕ) (after_number after : List ℕ) (type : BlockType) (number_is : Number order 4 number s after_number)
    (stated_is : Number order 4 stated after_number after) (type_is : type ≡ block_type number) where
  same_head : (other : BlockType) (front rest : List ℕ) (room : ℕ) (x : CutBlock order most s other front rest room)
      → (x.stated ≡ stated) × (front ++ rest ≡ after) × (other ≡ type)
  same_head other front rest room x =
      let first = number_same order 4 x.number number s x.after_number after_number x.number_is number_is in
      let behind = subst (λ (t : List ℕ). Number order 4 x.stated t (front ++ rest)) first.1 x.stated_is in
      let second = number_same order 4 x.stated stated after_number (front ++ rest) after behind stated_is in
      (second.0, second.1, x.type_is ∙ ap block_type first.0 ∙ sym type_is)

  same_end : (other : BlockType) (front rest : List ℕ) (room : ℕ) (x : CutBlock order most s other front rest room) → data_end order most type after ≡ Some (length front)
  same_end other front rest room x =
      let same = same_head other front rest room x in
      let there = subst (λ (t : List ℕ). data_end order most other t ≡ Some (length front)) same.1 x.front_is in
      subst (λ (t : BlockType). data_end order most t after ≡ Some (length front)) same.2 there

  -- A block without all its data is none that is cut off behind them.
  pub not_all_data : LacksData order most type after → IsNotCut order most s
  not_all_data lacks other front rest room x =
      let same = same_head other front rest room x in
      let few : length after < length front = lacks (length front) (same_end other front rest room x) in
      omega (arith, few, ap length same.1, length-append front rest)

  -- Nor is a block whose length has no room, or that is whole.
  pub not_cut : (n : ℕ) → data_end order most type after ≡ Some n → (stated < 12 + up_to_4 n) ⊎ (stated ≤ length s) → IsNotCut order most s
  not_cut n end (inl few) other front rest room x =
      let same = same_head other front rest room x in
      let both : ◌≡◌ {A = Option ℕ} (Some n) (Some (length front)) = sym end ∙ same_end other front rest room x in
      let is : n ≡ length front = cc in
      let less : stated < 12 + up_to_4 (length front) = subst (λ (k : ℕ). stated < 12 + up_to_4 k) is few in
      omega (arith, less, x.room_is, same.0)
  not_cut n end (inr whole) other front rest room x =
      let same = same_head other front rest room x in
      omega (arith, whole, x.cut_off, same.0)

keeps_no_longer : (order : Endianness) (of : Option OptionsOf) (s kept : List ℕ) → KeepsOptions order of s kept → length kept ≤ length s
keeps_no_longer order None s kept none = omega (arith, ap length none)
keeps_no_longer order (Some of) s kept x = kept_no_longer (number_in order) (kind_of of) s kept x

-- The whole block is no longer than its length said.
pub whole_short : (order : Endianness) (of : Option OptionsOf) (front rest padded options kept body : List ℕ) (room : ℕ) → (12 + up_to_4 (length front)) + room < 2 ^ 32
    → padded ≡ front ++ replicate (padding_after (length front)) 0 → options ≡ options_behind front rest room → KeepsOptions order of options kept
    → body ≡ padded ++ kept → length body + 12 < 2 ^ 32
whole_short order of front rest padded options kept body room short padded_is options_are keeps body_is =
    let zeros = padding_after (length front) in
    omega (
      arith,
      short,
      ap length body_is,
      length-append padded kept,
      ap length padded_is,
      length-append front (replicate zeros 0),
      length-replicate {A = ℕ} zeros 0,
      keeps_no_longer order of options kept keeps,
      ap length options_are,
      length-take room (drop zeros rest),
    )
