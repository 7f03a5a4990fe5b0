-- Blocks that go on after corrupt bytes, and the frame of the first of them.
use Rattle.std.proofs.Common.{◌≡◌, ◌<◌, ◌≤◌, ◌+◌, ◌-◌, ℕ, List, length, take, drop, sym, subst, ap, ◌∙◌, arith, inl, inr, Some, None}
use Rattle.std.proofs.lemmas.List.{take_all, length-drop, drop-drop}
use Rattle.pcap_core.specs.declared.common.Endianness.{Endianness}
use Rattle.pcap_core.specs.declared.errors.PcapError.{PcapError}
use Rattle.pcap_core.specs.Answer.{whole, lacks, faulty, Refuses}
use Rattle.pcap_core.proofs.Verdicts.{whole_same}
use Rattle.pcap_items.proofs.Fronts.{said_not_refused}
use Rattle.pcap_ng.specs.Frames.{Framed, FrameText, FrameSays}
use Rattle.pcap_ng.proofs.HeadedFrames.{frame_one}
use Rattle.pcap_tolerant_captures.specs.Resync.{frames_in_a_row, BlocksStand, BlocksResync}
use Rattle.pcap_tolerant_captures.specs.Places.{IsKnown, BeginsKnown, FirstBlocks}

module _ (e : Endianness) (s : List ℕ) where
  -- Where blocks go on, there is a frame.
  frame_there : BlocksStand e 2 s → (block : Framed) × (rest : List ℕ) × FrameText e block s rest
  unfolding frames_in_a_row
  frame_there (inl header) = (header.block, header.rest, header.frame)
  frame_there (inr row) = (row.0, row.1, row.2)

  -- Blocks don't go on where a frame is refused.
  pub refused_there : (error : PcapError) → Refuses ⊥ (λ n. FrameSays e s (lacks n)) (λ fault. FrameSays e s (faulty fault)) error → BlocksStand e 2 s → ⊥
  refused_there error x stand =
      let frame = frame_there stand in
      said_not_refused (FrameSays e s) (frame_one e s) frame.0 frame.1 frame.2 error x

  -- A refused frame is no block of a known type.
  pub none_known : (error : PcapError) → Refuses ⊥ (λ n. FrameSays e s (lacks n)) (λ fault. FrameSays e s (faulty fault)) error → BeginsKnown e s → ⊥
  none_known error x known = said_not_refused (FrameSays e s) (frame_one e s) known.0 known.1 known.2 error x

  -- The block at the front has a known type, if a block of a known type is there.
  pub known_there : (block : Framed) (rest : List ℕ) → FrameText e block s rest → BeginsKnown e s → IsKnown block.type_
  known_there block rest frame known =
      let one = frame_one e s in
      let same = whole_same known.0 block known.1 rest (one.only (whole known.0 known.1) known.2 ∙ sym (one.only (whole block rest) frame)) in
      subst (λ (x : Framed). IsKnown x.type_) same.0 known.3

module _ (e : Endianness) (s : List ℕ) (at : ℕ) (inside : at ≤ length s) where
  -- The slice from a place on.
  pub sliced : take (length s - at) (drop at s) ≡ drop at s
  sliced = take_all (length s - at) (drop at s) (omega (arith, length-drop at s))

  place_there : (m : ℕ) → at ≤ m → drop (m - at) (drop at s) ≡ drop m s
  place_there m behind =
      let same : at + (m - at) ≡ m = omega (arith, behind) in
      drop-drop (m - at) at s ∙ ap (λ (n : ℕ). drop n s) same

  -- If no blocks go on in the slice from a place on, none do from there on.
  pub none_behind : BlocksResync e 2 (take (length s - at) (drop at s)) None → (m : ℕ) → at ≤ m → m < length s → BlocksStand e 2 (drop m s) → ⊥
  none_behind none m behind less stand =
      let here : BlocksResync e 2 (drop at s) None = subst (λ (t : List ℕ). BlocksResync e 2 t None) sliced none in
      here (m - at) (omega (arith, length-drop at s, behind, less)) (subst (BlocksStand e 2) (sym (place_there m behind)) stand)

  -- The first place in the slice is the first one from there on.
  module _ (n : ℕ) (found : BlocksResync e 2 (take (length s - at) (drop at s)) (Some n)) where
    here : BlocksResync e 2 (drop at s) (Some n)
    here = subst (λ (t : List ℕ). BlocksResync e 2 t (Some n)) sliced found

    pub found_inside : at + n < length s
    found_inside = omega (arith, length-drop at s, here.0, inside)

    pub found_stands : BlocksStand e 2 (drop (at + n) s)
    found_stands = subst (BlocksStand e 2) (drop-drop n at s) here.1

    pub none_before : (m : ℕ) → at ≤ m → m < at + n → BlocksStand e 2 (drop m s) → ⊥
    none_before m behind less stand = here.2 (m - at) (omega (arith, behind, less)) (subst (BlocksStand e 2) (sym (place_there m behind)) stand)

-- The first of the blocks that go on at the first such place.
abbrev pub first_there : (e : Endianness) (s : List ℕ) (n : ℕ) → BlocksResync e 2 s (Some n) → (block : Framed) (rest : List ℕ)
    → FrameText e block (take (length s - n) (drop n s)) rest → FirstBlocks e s n
first_there e s n found block rest frame = record {
  is_first = found;
  block = block;
  rest = rest;
  frame = subst (λ (t : List ℕ). FrameText e block t rest) (sliced e s n (omega (arith, found.0))) frame;
}
