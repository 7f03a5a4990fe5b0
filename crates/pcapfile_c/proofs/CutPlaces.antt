-- Cuts in the first places of a list.
use Rattle.std.proofs.Common.{◌≡◌, ◌<◌, ◌≤◌, ◌+◌, ◌-◌, ℕ, List, [], ◌∷◌, ◌++◌, length, take, refl, sym, subst, arith, length-append, Option, Some, None}
use Rattle.std.proofs.lemmas.Grind.{take-set_at}
use Rattle.std.proofs.lemmas.List.{length-map, length-take-le}
use Rattle.std.specs.Prelude.{slice_set}
use Rattle.pcap_items.specs.declared.rest.Rest.{Rest}
use Rattle.pcap_items.specs.Format.{Format}
use Rattle.pcap_classic.specs.declared.pcap.header.PcapHeader.{PcapHeader}
use Rattle.pcap_classic.specs.HeaderText.{HeaderText}
use Rattle.pcap_classic.specs.PacketText.{Captured, packet_limit}
use Rattle.pcap_classic.specs.Packets.{format_under}
use Rattle.pcap_classic.proofs.CaptureFormat.{under_lawful}
use Rattle.pcap_ng.specs.Blocks.{block_format}
use Rattle.pcap_parts.specs.declared.cut.Cut.{Cut}
use Rattle.pcap_parts.specs.declared.cut_ng.NgCut.{NgCut}
use Rattle.pcap_parts.specs.declared.cut_ng.NgCuts.{NgCuts}
use Rattle.pcap_parts.specs.declared.parting.Parting.{Parting}
use Rattle.pcap_parts.specs.declared.parting.Parting.TheVariants.{Equal, AtLeast}
use Rattle.pcap_parts.specs.NgParts.{bounds_of}
use Rattle.pcap_parts.specs.Partings.{AreAskedFor, AsksSome, WantsNext}
use Rattle.pcap_parts.specs.Parts.{AreCuts, AreFair, Passes}
use Rattle.pcap_parts.proofs.NgCaptures.{opening_same}
use Rattle.pcap_parts.proofs.Parted.{PartedSoFar, parted_more}
use Rattle.pcap_parts.proofs.Stepping.{steps_fit}
use Rattle.pcapfile_c.specs.Cuts.{CutsBlocks, HasRoom, IsCutAsAsked}

module _ {S V : Type 0} (f : Format S V) (q : S) (s : List ℕ) (total : ℕ) (left : List ℕ) (before : ℕ) where
  -- One more place is filled.
  pub cut_filled : (how : Parting) (places : List Cut) (k : ℕ) (x : Cut) → k < length places → PartedSoFar f q s total how left before (take k places ++ x ∷ [])
      → PartedSoFar f q s total how left before (take (k + 1) (slice_set places k x))
  cut_filled how places k x within so_far = subst (λ (cuts : List Cut). PartedSoFar f q s total how left before cuts) (sym (take-set_at places k (k + 1) x refl within)) so_far

  -- There are no more cuts than places.
  pub cuts_few : (how : Parting) (places : List Cut) (k : ℕ) (x : Cut) → HasRoom how total (length places) → k ≤ length places → PartedSoFar f q s total how left before (take k places ++ x ∷ []) → k < length places
  cuts_few (Equal parts) places k x room within so_far =
      let one : length (take k places ++ x ∷ []) ≡ length (take k places) + 1 = length-append (take k places) (x ∷ []) in
      omega (arith, so_far.made.few, so_far.made.not_all, one, length-take-le k places within, room.0, room.1)
  cuts_few (AtLeast n) places k x room within so_far =
      let one : length (take k places ++ x ∷ []) ≡ length (take k places) + 1 = length-append (take k places) (x ∷ []) in
      omega (arith, steps_fit f q s total n _ (take k places ++ x ∷ []) (length places) so_far.made so_far.cutting.cuts_are.bounds room, one, length-take-le k places within)

-- The cuts of all packets are as requested.
pub cut_as_asked : (how : Parting) (header : PcapHeader) (cuts : List Cut) (bytes after : List ℕ) → HeaderText header bytes after → length bytes - length after ≡ 24
    → AreAskedFor (format_under packet_limit header) tt after (length bytes) how cuts → IsCutAsAsked how header cuts bytes
cut_as_asked (Equal parts) header cuts bytes after text front asked =
    record { after = after; header_text = text; fair = subst (λ (n : ℕ). AreFair (format_under packet_limit header) tt after (length bytes) n parts cuts) front asked }
cut_as_asked (AtLeast n) header cuts bytes after text front asked = record { after = after; header_text = text; steps = asked }

-- The cuts of blocks fit into their places.
pub blocks_fit : (how : Parting) (cuts : NgCuts) (bytes : List ℕ) (places : ℕ) → CutsBlocks how bytes cuts → HasRoom how (length bytes) places → length cuts.cuts.items ≤ places
blocks_fit (Equal parts) cuts bytes places (cut, fair, told) room = omega (arith, fair.fair.few, length-map cuts.cuts.items (λ (c : NgCut). c.at), room.0, room.1)
blocks_fit (AtLeast n) cuts bytes places (cut, steps, told) room =
    let bounds = bounds_of cuts.cuts.items in
    let same = opening_same bytes steps.first cut.first steps.after cut.after steps.opens cut.opens in
    let all : AreCuts block_format steps.first steps.after (length bytes - length cut.after) (length bytes) bounds = rw (same.0, same.1) cut.cuts_are in
    omega (arith, steps_fit block_format steps.first steps.after (length bytes) n _ bounds places steps.steps all.bounds room, length-map cuts.cuts.items (λ (c : NgCut). c.at))

-- The packets after a header, which are cut.
module _ (header : PcapHeader) (s : List ℕ) (total : ℕ) (fits : length s ≤ total) (how : Parting) (some : AsksSome how) where
  abbrev f : Format (Unit {0}) Captured
  f = format_under packet_limit header

  -- After a part that is followed by bytes, there is a place for one more cut, and it is filled.
  pub cut_next : (left after : List ℕ) (before wanted items : ℕ) (rest : Option Rest) (places : List Cut) (k : ℕ) (x : Cut) (so_far : PartedSoFar f tt s total how left before (take k places))
      → WantsNext how (length s - length left) (length s) (Some wanted) → Passes f tt left after wanted items rest → rest ≡ None → 0 < length after → items + length after ≤ length left
      → x.offset ≡ total - length after → x.before ≡ before + items → HasRoom how total (length places) → k ≤ length places
      → (k < length places) × PartedSoFar f tt s total how after x.before (take (k + 1) (slice_set places k x))
  cut_next left after before wanted items rest places k x so_far wants passes none bytes few at counts room within =
      let p : Passes f tt left after wanted items None = subst (λ (r : Option Rest). Passes f tt left after wanted items r) none passes in
      let more = parted_more f (under_lawful packet_limit header) tt s total fits how some left after before wanted items (take k places) x so_far wants p bytes few at counts in
      let here : PartedSoFar f tt s total how after x.before (take k places ++ x ∷ []) = subst (λ (n : ℕ). PartedSoFar f tt s total how after n (take k places ++ x ∷ [])) (sym counts) more in
      let place = cuts_few f tt s total after x.before how places k x room within here in
      (place, cut_filled f tt s total after x.before how places k x place here)
