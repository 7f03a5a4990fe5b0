-- The run over a PcapNg capture is the runs over its parts.
use Rattle.std.proofs.Common.{◌≡◌, ◌-◌, ℕ, List, ◌++◌, length, map, refl, sym, ap, subst, ◌∙◌, arith, length-append}
use Rattle.pcap_core.specs.Answer.{whole}
use Rattle.pcap_items.specs.Format.{state_after, Front}
use Rattle.pcap_items.specs.Run.{IsRest}
use Rattle.pcap_items.proofs.Formats.{text_same}
use Rattle.pcap_ng.specs.declared.run.NgRun.{NgRun}
use Rattle.pcap_ng.specs.Blocks.{Item, block_format}
use Rattle.pcap_ng.specs.Frames.{framed_of}
use Rattle.pcap_ng.specs.Opening.{OpeningSays}
use Rattle.pcap_ng.specs.Parser.{state_of}
use Rattle.pcap_ng.specs.Run.{IsRun}
use Rattle.pcap_ng.specs.State.{State, opening}
use Rattle.pcap_ng.proofs.BlockFormat.{blocks_lawful}
use Rattle.pcap_ng.proofs.FedBlocks.{first_opening}
use Rattle.pcap_parts.specs.declared.cut_ng.NgCuts.{NgCuts}
use Rattle.pcap_parts.specs.declared.cut_ng.NgCut.{NgCut}
use Rattle.pcap_parts.specs.declared.parting.Parting.{Parting}
use Rattle.pcap_parts.specs.declared.parting.Parting.TheVariants.{Equal, AtLeast}
use Rattle.pcap_parts.specs.NgParts.{IsNgCut, IsNgCutBy, IsNgRunInParts, bounds_of}
use Rattle.pcap_parts.specs.Partings.{AreAskedFor}
use Rattle.pcap_parts.specs.Parts.{AreCuts, InParts}
use Rattle.pcap_parts.proofs.InParts.{in_parts}

-- Bytes open a capture in only one way.
pub opening_same : (bytes : List ℕ) (p q : State) (after other : List ℕ) → OpeningSays bytes (whole p after) → OpeningSays bytes (whole q other) → (p ≡ q) × (after ≡ other)
unfolding block_format
opening_same bytes p q after other x y =
    let mine : Item = record { block = x.0; after = p } in
    let its : Item = record { block = y.0; after = q } in
    let one = text_same block_format blocks_lawful opening mine its bytes after other x.1 y.1 in
    (ap (λ (item : Item). item.after) one.0, one.1)

-- NgCutRun: the bytes behind the first section header of a run's capture, which is cut there, with their blocks and what is left.
pub record NgCutRun (run : NgRun) (cuts : NgCuts) (bytes : List ℕ) (first : State) (after : List ℕ) : Type 0 where
  pub before : List ℕ
  pub split : bytes ≡ before ++ after
  pub items : List Item
  pub left : List ℕ
  pub blocks : map (λ (item : Item). item.block) items ≡ map framed_of run.blocks.items
  pub state : state_after block_format first items ≡ state_of run.parser
  pub rest : IsRest (block_format.says (state_of run.parser)) left run.rest
  pub front : Front block_format first items after left
  pub cuts_are : AreCuts block_format first after (length before) (length (before ++ after)) (bounds_of cuts.cuts.items)

pub ng_cut_run : (run : NgRun) (cuts : NgCuts) (bytes : List ℕ) → IsRun run bytes → (y : IsNgCut cuts bytes) → NgCutRun run cuts bytes y.first y.after
unfolding block_format
ng_cut_run run cuts bytes x y =
    let first = x.front.first in
    let items = x.front.items in
    let left = x.left in
    let opened : Item = record { block = y.opens.0; after = y.first } in
    let texts = x.front.front.texts in
    let one = text_same block_format blocks_lawful opening first opened bytes texts.0 y.after texts.1 y.opens.1 in
    let state : first.after ≡ y.first = ap (λ (item : Item). item.after) one.0 in
    let there : Front block_format first.after items texts.0 left = record { texts = texts.2; longest = x.front.front.longest } in
    let here : Front block_format y.first items texts.0 left = subst (λ (p : State). Front block_format p items texts.0 left) state there in
    let h = first_opening.ends bytes y.after y.first y.opens in
    let long : length h.0 ≡ length bytes - length y.after = omega (arith, ap length {x = bytes} {y = h.0 ++ y.after} h.1, length-append h.0 y.after) in
    let bounds = bounds_of cuts.cuts.items in
    let whole_cuts : AreCuts block_format y.first y.after (length bytes - length y.after) (length (h.0 ++ y.after)) bounds =
    subst (λ (t : List ℕ). AreCuts block_format y.first y.after (length bytes - length y.after) (length t) bounds) h.1 y.cuts_are in
    record {
      before = h.0;
      split = h.1;
      items = items;
      left = left;
      blocks = x.front.blocks_are;
      state = subst (λ (p : State). state_after block_format p items ≡ state_after block_format first.after items) state refl ∙ x.front.in_force;
      rest = x.rest;
      front = subst (λ (t : List ℕ). Front block_format y.first items t left) one.1 here;
      cuts_are = subst (λ (n : ℕ). AreCuts block_format y.first y.after n (length (h.0 ++ y.after)) bounds) (sym long) whole_cuts;
    }

pub ng_run_parts : (run : NgRun) (cuts : NgCuts) (bytes : List ℕ) → IsRun run bytes → IsNgCut cuts bytes → IsNgRunInParts run cuts.cuts.items bytes
ng_run_parts run cuts bytes x y =
    let r = ng_cut_run run cuts bytes x y in
    let bounds = bounds_of cuts.cuts.items in
    let parts : InParts block_format y.first r.items r.left (r.before ++ y.after) bounds = in_parts block_format blocks_lawful y.first r.before y.after r.left r.items bounds r.front r.cuts_are in
    record {
      first = y.first;
      items = r.items;
      left = r.left;
      blocks = r.blocks;
      state = r.state;
      rest = r.rest;
      parts = subst (λ (t : List ℕ). InParts block_format y.first r.items r.left t bounds) (sym r.split) parts;
    }

-- The cuts are the requested ones.
pub ng_cut_by : (how : Parting) (first : State) (after bytes : List ℕ) (cuts : List NgCut) → OpeningSays bytes (whole first after) → AreAskedFor block_format first after (length bytes) how (bounds_of cuts) → IsNgCutBy how cuts bytes
ng_cut_by (Equal parts) first after bytes cuts opens asked = record { first = first; after = after; opens = opens; fair = asked }
ng_cut_by (AtLeast n) first after bytes cuts opens asked = record { first = first; after = after; opens = opens; steps = asked }
