-- Blocks in their frames that follow each other.
use Rattle.std.proofs.Common.{◌≡◌, ◌<◌, ◌≤◌, ◌+◌, ◌-◌, ℕ, List, length, take, drop, refl, sym, subst, ◌∙◌, arith, inl, inr}
use Rattle.std.proofs.lemmas.Bool.{cases_lt}
use Rattle.std.proofs.lemmas.List.{take_all, length-drop}
use Rattle.pcap_core.specs.declared.common.Endianness.{Endianness}
use Rattle.pcap_core.specs.declared.errors.PcapError.{PcapError}
use Rattle.pcap_core.specs.Answer.{whole, lacks, faulty, Refuses}
use Rattle.pcap_items.specs.Format.{IsLawful}
use Rattle.pcap_blocks.specs.declared.block_type.BlockType.TheVariants as types
use Rattle.pcap_ng.specs.Frames.{Framed, FrameText, FrameSays, frame_format}
use Rattle.pcap_ng.proofs.HeadedFrames.{frames_lawful, frame_one}
use Rattle.pcap_tolerant.proofs.Rows.{goes_down, goes_up, goes_to_the_end, goes_no_further, goes_not_over}
use Rattle.pcap_tolerant_captures.specs.Resync.{frames_in_a_row, FrameRow, HasRoom, HeaderStands}
use Rattle.pcap_core.proofs.Verdicts.{whole_same}
use Rattle.pcap_items.proofs.Formats.{lawful_moved}

laws : IsLawful frames_in_a_row
unfolding frames_in_a_row frame_format
laws = lawful_moved frame_format frames_in_a_row (λ e. refl) (λ e s v x. x) (λ e s v x. x) frames_lawful

-- One frame is a row of one.
one_row : (e : Endianness) (s : List ℕ) (b : Framed) (rest : List ℕ) → FrameText e b s rest → HasRoom b → FrameRow e 1 s
unfolding frames_in_a_row
one_row e s b rest text room = (b, rest, text, room, inr tt)

module _ (e : Endianness) (s : List ℕ) where
  -- If `s` begins with a block and with a section header, the block is that header.
  pub header_is : (b : Framed) (rest : List ℕ) → FrameText e b s rest → HeaderStands e s → (b.type_ ≡ types.SectionHeader) × (16 ≤ length b.body)
  header_is b rest text header =
      let one = frame_one e s in
      let same = whole_same header.block b header.rest rest (one.only (whole header.block header.rest) header.frame ∙ sym (one.only (whole b rest) text)) in
      subst (λ (x : Framed). (x.type_ ≡ types.SectionHeader) × (16 ≤ length x.body)) same.0 (header.is_header, header.room)

  pub no_header : (error : PcapError) → Refuses ⊥ (λ n. FrameSays e s (lacks n)) (λ fault. FrameSays e s (faulty fault)) error → HeaderStands e s → ⊥
  unfolding frames_in_a_row
  no_header error x header = goes_no_further frames_in_a_row HasRoom laws e 1 s error x (omega arith) (one_row e s header.block header.rest header.frame (λ is. header.room))

-- If no place before this one satisfies the condition, and this one doesn't, no place up to here does.
pub none_further : (Holds : List ℕ → Type 0) (s : List ℕ) (at : ℕ) → ((m : ℕ) → m < at → Holds (drop m s) → ⊥) → (Holds (take (length s - at) (drop at s)) → ⊥) → (m : ℕ) → m < at + 1 → Holds (drop m s) → ⊥
none_further Holds s at before here m less holds =
    elim (cases_lt m at) [
      | inl fewer ↦ before m fewer holds
      | inr more ↦
          let is : m ≡ at = omega (arith, less, more) in
          let whole : take (length s - at) (drop at s) ≡ drop at s = take_all (length s - at) (drop at s) (omega (arith, length-drop at s)) in
          here (subst Holds (sym whole) (subst (λ (n : ℕ). Holds (drop n s)) is holds))
    ]

module _ (e : Endianness) (more : ℕ) (s : List ℕ) where
  module _ (rest : List ℕ) (b : Framed) (text : FrameText e b s rest) (some : 0 < more) where
    pub frames_down : (length rest ≡ 0 → ⊥) → FrameRow e more s → FrameRow b.endianness (more - 1) rest
    unfolding frames_in_a_row
    frames_down on row = goes_down frames_in_a_row HasRoom laws e more s rest b text some on row

    pub frames_up : HasRoom b → FrameRow b.endianness (more - 1) rest → FrameRow e more s
    unfolding frames_in_a_row
    frames_up room row = goes_up frames_in_a_row HasRoom laws e more s rest b text room some row

    pub frames_end : HasRoom b → length rest ≡ 0 → FrameRow e more s
    unfolding frames_in_a_row
    frames_end room none = goes_to_the_end frames_in_a_row HasRoom laws e more s rest b text room some none

    pub no_room : (HasRoom b → ⊥) → FrameRow e more s → ⊥
    unfolding frames_in_a_row
    no_room short row = goes_not_over frames_in_a_row HasRoom laws e more s rest b text short some row

  pub frames_refused : (error : PcapError) → Refuses ⊥ (λ n. FrameSays e s (lacks n)) (λ fault. FrameSays e s (faulty fault)) error → 0 < more → FrameRow e more s → ⊥
  unfolding frames_in_a_row
  frames_refused error x some row = goes_no_further frames_in_a_row HasRoom laws e more s error x some row
