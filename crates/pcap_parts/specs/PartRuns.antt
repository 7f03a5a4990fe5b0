-- The run over one part of a capture, and how the runs over all parts join to the run over the whole.
use Rattle.std.specs.Prelude.{◌≡◌, ◌+◌, ℕ, List, [], ◌∷◌, length, map, drop, ⊤}
use Rattle.pcap_core.specs.declared.errors.PcapError.{PcapError}
use Rattle.pcap_core.specs.declared.errors.PcapError.TheVariants.{InvalidField, OutOfMemory}
use Rattle.pcap_items.specs.declared.rest.Rest.{Rest}
use Rattle.pcap_items.specs.declared.rest.Rest.TheVariants.{Clean}
use Rattle.pcap_items.specs.Format.{Format, Front, state_after}
use Rattle.pcap_items.specs.Run.{IsRest}
use Rattle.pcap_classic.specs.declared.pcap.header.PcapHeader.{PcapHeader}
use Rattle.pcap_classic.specs.declared.run.PcapRun.{PcapRun}
use Rattle.pcap_classic.specs.PacketText.{Captured, content_of, packet_limit}
use Rattle.pcap_classic.specs.Packets.{format_under}
use Rattle.pcap_classic.specs.Writing.{RefusesMagic}
use Rattle.pcap_ng.specs.declared.run.NgRun.{NgRun}
use Rattle.pcap_ng.specs.Blocks.{Item, block_format}
use Rattle.pcap_ng.specs.Frames.{Framed, framed_of}
use Rattle.pcap_ng.specs.Parser.{state_of}
use Rattle.pcap_ng.specs.State.{State}
use Rattle.pcap_parts.specs.declared.cut_ng.NgCut.{NgCut}
use Rattle.pcap_parts.specs.NgParts.{places_at}
use Rattle.pcap_parts.specs.Parts.{joined}
use Rattle.pcap_parts.specs.Resume.{IsFed, from_places}

-- RunsOver: these items are the front of a part from this state; they take `used` bytes, and `said` describes the rest.
pub record RunsOver {S V : Type 0} (f : Format S V) (q : S) (vs : List V) (part : List ℕ) (used : ℕ) (said : Rest) : Type 0 where
  pub left : List ℕ
  pub front : Front f q vs part left
  pub used_is : used + length left ≡ length part
  pub rest : IsRest (f.says (state_after f q vs)) left said

-- The packets of a run.
abbrev pub packets_of : PcapRun → List Captured
packets_of run = map content_of run.packets.items

-- IsPartRun: the run has the packets of the part under this header.
pub record IsPartRun (header : PcapHeader) (part : List ℕ) (run : PcapRun) : Type 0 where
  pub same : run.header ≡ header
  pub runs : RunsOver (format_under packet_limit header) tt (packets_of run) part run.used run.rest

-- RefusesPart: the header's magic number is not valid, or memory ran out for the packets of a part that has at least one.
abbrev pub RefusesPart : PcapHeader → List ℕ → PcapError → Type 0
RefusesPart header part (InvalidField text) = RefusesMagic header text.now
RefusesPart header part (OutOfMemory e) =
    (first : Captured) × (others : List Captured) × (rest : List ℕ) × Front (format_under packet_limit header) tt (first ∷ others) part rest
RefusesPart header part _ = ⊥

-- IsNgPartRun: the run has the blocks of the part from this state, and its parser has the state to which they lead.
pub record IsNgPartRun (q : State) (part : List ℕ) (run : NgRun) : Type 0 where
  pub items : List Item
  pub blocks : map (λ (item : Item). item.block) items ≡ map framed_of run.blocks.items
  pub leads : state_after block_format q items ≡ state_of run.parser
  pub runs : RunsOver block_format q items part run.used run.rest

-- TakeParts: each run but the last takes all bytes of its part, with a clean rest, and the last run fulfils `Last`.
abbrev pub TakeParts : {X : Type 0} → (X → ℕ) → (X → Rest) → (X → Type 0) → List (List ℕ) → List X → Type 0
TakeParts used_of rest_of Last (part ∷ []) (run ∷ []) = Last run
TakeParts used_of rest_of Last (part ∷ next ∷ parts) (run ∷ other ∷ runs) =
    (used_of run ≡ length part) × (rest_of run ≡ Clean) × TakeParts used_of rest_of Last (next ∷ parts) (other ∷ runs)
TakeParts used_of rest_of Last _ _ = ⊥

-- PartRunsJoin: the packets of the whole run are those of the part runs, joined in order, and the last part run has its rest.
pub record PartRunsJoin (run : PcapRun) (parts : List (List ℕ)) (runs : List PcapRun) : Type 0 where
  pub packets : packets_of run ≡ joined (map packets_of runs)
  pub left : List ℕ
  pub rest : IsRest ((format_under packet_limit run.header).says tt) left run.rest
  pub ends : TakeParts (λ part. part.used) (λ part. part.rest) (λ last. IsRest ((format_under packet_limit run.header).says tt) left last.rest) parts runs

-- The blocks of a run.
abbrev pub blocks_of : NgRun → List Framed
blocks_of run = map framed_of run.blocks.items

-- IsResumedRun: the run is over the part at a cut, with a parser that was fed at the places of the cut.
pub record IsResumedRun (bytes places : List ℕ) (cut : NgCut) (part : List ℕ) (run : NgRun) : Type 0 where
  pub state : State
  pub fed : IsFed (drop cut.header bytes) (from_places bytes (places_at places cut)) state
  pub runs : IsNgPartRun state part run

-- AreResumedRuns: each run is a resumed run over the part at its cut.
abbrev pub AreResumedRuns : List ℕ → List ℕ → List NgCut → List (List ℕ) → List NgRun → Type 0
AreResumedRuns bytes places [] [] [] = ⊤
AreResumedRuns bytes places (cut ∷ cuts) (part ∷ parts) (run ∷ runs) = IsResumedRun bytes places cut part run × AreResumedRuns bytes places cuts parts runs
AreResumedRuns bytes places _ _ _ = ⊥

-- NgPartRunsJoin: the blocks of the whole run are those of the part runs, joined in order, and the last part run has its state and
-- its rest.
pub record NgPartRunsJoin (run : NgRun) (parts : List (List ℕ)) (runs : List NgRun) : Type 0 where
  pub blocks : blocks_of run ≡ joined (map blocks_of runs)
  pub left : List ℕ
  pub rest : IsRest (block_format.says (state_of run.parser)) left run.rest
  pub ends : TakeParts (λ part. part.used) (λ part. part.rest)
      (λ last. (state_of last.parser ≡ state_of run.parser) × IsRest (block_format.says (state_of run.parser)) left last.rest) parts runs
