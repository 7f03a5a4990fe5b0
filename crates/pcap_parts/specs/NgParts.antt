-- Cuts of a PcapNg capture into parts, walks over its blocks, and what is in force at each cut.
use Rattle.std.specs.Prelude.{◌≡◌, ◌≤◌, ◌+◌, ◌-◌, ℕ, List, ◌++◌, length, map, take, drop}
use Rattle.std.specs.List.{AllByRecursion}
use Rattle.pcap_core.specs.Answer.{whole}
use Rattle.pcap_items.specs.Format.{Texts, state_after}
use Rattle.pcap_items.specs.Run.{IsRest}
use Rattle.pcap_ng.specs.declared.run.NgRun.{NgRun}
use Rattle.pcap_ng.specs.Blocks.{Item, block_format}
use Rattle.pcap_ng.specs.Frames.{framed_of}
use Rattle.pcap_ng.specs.Opening.{OpeningSays}
use Rattle.pcap_ng.specs.Parser.{state_of}
use Rattle.pcap_ng.specs.State.{State, opening}
use Rattle.pcap_parts.specs.declared.cut.Cut.{Cut}
use Rattle.pcap_parts.specs.declared.cut_ng.NgCut.{NgCut}
use Rattle.pcap_parts.specs.declared.cut_ng.NgCuts.{NgCuts}
use Rattle.pcap_parts.specs.declared.parting.Parting.{Parting}
use Rattle.pcap_parts.specs.declared.parting.Parting.TheVariants.{Equal, AtLeast}
use Rattle.pcap_parts.specs.Parts.{Bound, AreCuts, AreFair, HaveAtLeast, InParts}
use Rattle.pcap_parts.specs.Resume.{IsFed, from_places}

-- HasOpening: the first block of a capture is whole at the front, and it is a section header.
abbrev pub HasOpening : List ℕ → Type 0
HasOpening bytes = (first : State) × (after : List ℕ) × OpeningSays bytes (whole first after)

-- IsWalked: blocks before what is left lead to this state, and so do the blocks at the header's place and at these places alone.
pub record IsWalked (bytes left : List ℕ) (q : State) (header : ℕ) (places : List ℕ) : Type 0 where
  pub items : List Item
  pub texts : Texts block_format opening items bytes left
  pub leads : state_after block_format opening items ≡ q
  pub fed : IsFed (drop header bytes) (from_places bytes places) q

-- GoesOn: the second list begins with the first.
abbrev pub GoesOn : List ℕ → List ℕ → Type 0
GoesOn before now = (more : List ℕ) × (now ≡ before ++ more)

-- The places of the interface descriptions in force at a cut, among those of all interface descriptions.
abbrev pub places_at : List ℕ → NgCut → List ℕ
places_at places cut = take cut.interfaces (drop cut.first places)

-- ResumesAt: the cut is a boundary of the blocks of s; a parser fed at its places has the state to which the blocks before it lead.
pub record ResumesAt (bytes places : List ℕ) (q : State) (s : List ℕ) (cut : NgCut) : Type 0 where
  pub bound : Bound block_format q s (length bytes) cut.at
  pub within : cut.first + cut.interfaces ≤ length places
  pub fed : IsFed (drop cut.header bytes) (from_places bytes (places_at places cut)) (state_after block_format q bound.items)

-- The beginnings of the parts of a PcapNg capture.
abbrev pub bounds_of : List NgCut → List Cut
bounds_of cuts = map (λ (c : NgCut). c.at) cuts

-- IsNgCut: the cuts are boundaries of the blocks behind the first section header, and a parser can be made again at each.
pub record IsNgCut (cuts : NgCuts) (bytes : List ℕ) : Type 0 where
  pub first : State
  pub after : List ℕ
  pub opens : OpeningSays bytes (whole first after)
  pub cuts_are : AreCuts block_format first after (length bytes - length after) (length bytes) (bounds_of cuts.cuts.items)
  pub resume : AllByRecursion (ResumesAt bytes cuts.interfaces.items first after) cuts.cuts.items

-- IsNgCutFairly: the blocks behind the first section header are cut into fair parts, the first of which begins behind that header.
pub record IsNgCutFairly (parts : ℕ) (cuts : List NgCut) (bytes : List ℕ) : Type 0 where
  pub first : State
  pub after : List ℕ
  pub opens : OpeningSays bytes (whole first after)
  pub fair : AreFair block_format first after (length bytes) (length bytes - length after) parts (bounds_of cuts)

-- IsNgCutAtLeast: the blocks behind the first section header are cut into parts of at least n bytes.
pub record IsNgCutAtLeast (n : ℕ) (cuts : List NgCut) (bytes : List ℕ) : Type 0 where
  pub first : State
  pub after : List ℕ
  pub opens : OpeningSays bytes (whole first after)
  pub steps : HaveAtLeast block_format first after (length bytes) n (bounds_of cuts)

-- IsNgCutBy: the blocks behind the first section header are cut into the requested parts.
abbrev pub IsNgCutBy : Parting → List NgCut → List ℕ → Type 0
IsNgCutBy (Equal parts) cuts bytes = IsNgCutFairly parts cuts bytes
IsNgCutBy (AtLeast n) cuts bytes = IsNgCutAtLeast n cuts bytes

-- IsNgRunInParts: the blocks of a run are those of the parts, joined in order. The last part leads to the run's state, and it has
-- the run's rest.
pub record IsNgRunInParts (run : NgRun) (cuts : List NgCut) (bytes : List ℕ) : Type 0 where
  pub first : State
  pub items : List Item
  pub left : List ℕ
  pub blocks : map (λ (item : Item). item.block) items ≡ map framed_of run.blocks.items
  pub state : state_after block_format first items ≡ state_of run.parser
  pub rest : IsRest (block_format.says (state_of run.parser)) left run.rest
  pub parts : InParts block_format first items left bytes (bounds_of cuts)
