-- The copy of a capture of blocks that is accepted whole.
use Rattle.std.proofs.Common.{◌≡◌, ◌≤◌, ℕ, List, [], ◌∷◌, ◌++◌, length, refl, ap, sym, ◌∙◌, subst, arith, append_assoc, Some, inl, inr}
use Rattle.std.specs.Prelude.{Option}
use Rattle.std.proofs.lemmas.List.{length-map}
use Rattle.std.specs.Io.KnownBytes.{Appends}
use Rattle.std.proofs.KnownBytes.{Appends-kept, Appends-nil}
use Rattle.pcap_items.specs.AsTheyCame.{as_they_came}
use Rattle.pcap_items.specs.Copying as core
use Rattle.pcap_items.specs.Format.{Texts, state_after}
use Rattle.pcap_items.proofs.Accepted.{copies_accepted, copies_begin, no_fails}
use Rattle.pcap_items.proofs.AsTheyCame.{bytes_writing}
use Rattle.pcap_items.proofs.Copying.{copies_none}
use Rattle.pcap_items.proofs.Formats.{nothing_no_text}
use Rattle.pcap_items.proofs.Taking.{taken_known}
use Rattle.pcap_ng.specs.declared.pcapng.copying.NgCopied.{NgCopied}
use Rattle.pcap_ng.specs.Blocks.{Item, block_format}
use Rattle.pcap_ng.specs.Copies.{CopiesTexts, CopiesNg, FailsFirst, CopyNgRun, NothingFailed, CopiesBytes}
use Rattle.pcap_ng.specs.Frames.{Framed}
use Rattle.pcap_ng.specs.Front.{NgFront}
use Rattle.pcap_ng.specs.State.{State, opening}
use Rattle.pcap_ng.proofs.BlockFormat.{blocks_lawful}

module _ (q : State) (blocks : List Framed) (bytes : List ℕ) (now out out_now : Option (List ℕ)) (most : ℕ) (copied : NgCopied) (front : NgFront q blocks bytes []) (few : length blocks ≤ most) (fine : NothingFailed copied) where
  no_first : FailsFirst (Some bytes) now out out_now copied → ⊥
  no_first why =
      elim why.1 [
        | inl early ↦
            let text : Texts block_format opening (front.first ∷ front.items) [] [] = subst (λ (l : List ℕ). Texts block_format opening (front.first ∷ front.items) l []) early.at_end front.front.texts in
            nothing_no_text block_format blocks_lawful opening front.first text.0 text.1
        | inr fault ↦ no_fails block_format blocks_lawful as_they_came copied.read_failed copied.write_failed copied.fault opening (front.first ∷ front.items) bytes now out out_now
            fine.no_read_failed fine.no_write_failed fine.memory front.front fault
      ]

  all_copied : CopiesNg (Some bytes) now out out_now most copied → CopiesBytes bytes (length blocks) out out_now copied
  all_copied copy =
      let vs = copy.first ∷ copy.items in
      let all = front.first ∷ front.items in
      let named : length front.items ≡ length blocks = sym (length-map front.items (λ (i : Item). i.block)) ∙ ap length front.blocks_are in
      let room : copied.blocks ≡ most → length all ≤ length vs = λ full. omega (arith, few, full, copy.count, named) in
      let went = copies_accepted block_format blocks_lawful as_they_came copied.read_failed copied.write_failed copied.fault opening vs (Some bytes) copy.left now out copy.mid out_now most copied.blocks all bytes
      fine.no_read_failed fine.no_write_failed fine.memory front.front room copy.texts copy.ends in
      record { fine = went.0; count = omega (arith, copy.count, named, ap length went.1); went = went.2 }

  pub accepted_bytes : CopyNgRun (Some bytes) now out out_now most copied → CopiesBytes bytes (length blocks) out out_now copied
  accepted_bytes run = elim run [ inl why ↦ absurd (no_first why) | inr copy ↦ all_copied copy ]

module _ (bytes : List ℕ) (now out out_now : Option (List ℕ)) (most : ℕ) (copied : NgCopied) where
  -- The bytes that were written after items are a beginning of the capture.
  begins : (vs : List Item) (left mid : Option (List ℕ)) (most n : ℕ) → CopiesTexts block_format opening vs (Some bytes) left out mid
      → core.Ends as_they_came (block_format.says (state_after block_format opening vs)) left now mid out_now most n copied.fault copied.read_failed copied.write_failed
      → (gone rest : List ℕ) × (bytes ≡ gone ++ rest) × Appends out out_now gone
  begins vs left mid most n texts ends =
      let went = copies_begin block_format blocks_lawful as_they_came copied.read_failed copied.write_failed copied.fault opening vs (Some bytes) left now out mid out_now most n bytes_writing texts ends in
      let l = taken_known bytes went.2.bytes went.1 went.2.took in
      (went.3, went.4 ++ l.0, l.2 ∙ ap (λ (s : List ℕ). s ++ l.0) went.5 ∙ append_assoc went.3 went.4 l.0, went.6)

  -- Whatever fails, what was written is a beginning of the capture.
  pub copy_begins : CopyNgRun (Some bytes) now out out_now most copied → (gone rest : List ℕ) × (bytes ≡ gone ++ rest) × Appends out out_now gone
  copy_begins (inl (n, inl early)) = ([], bytes, refl, Appends-kept out out out_now [] (Appends-nil out) early.out)
  copy_begins (inl (n, inr why)) = begins [] (Some bytes) out 1 0 (copies_none block_format as_they_came bytes_writing opening (Some bytes) out) (inr (omega arith, why))
  copy_begins (inr copy) = begins (copy.first ∷ copy.items) copy.left copy.mid most copied.blocks copy.texts copy.ends
