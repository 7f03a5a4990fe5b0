-- The entries that the first pass over a PcapNg capture keeps.
use Rattle.std.specs.Prelude.{⊤, ◌≡◌, ◌<◌, ◌≤◌, ◌+◌, ◌^◌, ◌++◌, ◌⊎◌, ℕ, List, length, Bool, Option, None, Some, Result, Ok, Err}
use Rattle.std.specs.Io.KnownBytes.{Consumes, IsAtEnd}
use Rattle.pcap_core.specs.declared.errors.PcapError.{PcapError}
use Rattle.pcap_times.specs.declared.clock.Timestamp.{Timestamp}
use Rattle.pcap_blocks.specs.InterfaceDescription.{Interface}
use Rattle.pcap_blocks.specs.InterfaceTimes.{IsTimeAt}
use Rattle.pcap_blocks.specs.ParsedBlock.{Body}
use Rattle.pcap_ng.specs.Blocks.{Item}
use Rattle.pcap_ng.specs.Bodies.{SaysOfBody}
use Rattle.pcap_core.specs.Answer.{whole}
use Rattle.pcap_ng.specs.Frames.{Framed}
use Rattle.pcap_ng.specs.State.{State}
use Rattle.pcap_walk.specs.declared.walking.Ended.{Ended}
use Rattle.pcap_walk.specs.declared.walking.Ended.TheVariants.{AtEnd, AtMost, Refused, Stopped}
use Rattle.pcapfile_run.specs.BlockPackets.{packet_in}
use Rattle.pcapfile_sort.specs.declared.blocks.BlockEntries.{BlockEntries}
use Rattle.pcapfile_sort.specs.declared.blocks.Numbered.{Numbered}
use Rattle.pcapfile_sort.specs.declared.collecting.Unkept.{Unkept}
use Rattle.pcapfile_sort.specs.declared.collecting.Unkept.TheVariants.{Memory, TooLong}
use Rattle.pcapfile_sort.specs.Blocks.{AreBlocks, IsNumberIn, IsRankOf, IsTimeNumber, RefusesNext, RefusesParsing, rank_in, sections_with}
use Rattle.pcapfile_sort.specs.Entries.{entries_of}
use Rattle.pcapfile_sort.specs.Ranked.{Ranked, texts_of}
use Rattle.pcapfile_sort.specs.Reading.{KeepsOne}

-- This is the number of the time that is so many units of the interface's clock.
abbrev pub HasTimeNumber : Interface → ℕ → ℕ → Type 0
HasTimeNumber interface units n = (time : Timestamp) × IsTimeAt interface units time × IsTimeNumber (Some time) n

-- The rank of a numbered block, or there are too many sections.
abbrev pub IsRankIn : Numbered → Option ℕ → Type 0
IsRankIn numbered (Some rank) = (numbered.sections < 2 ^ 33) × (rank ≡ rank_in numbered.sections numbered.number)
IsRankIn numbered None = 2 ^ 33 ≤ numbered.sections

-- A block is numbered, after so many sections, and its section has these interfaces.
pub record NumbersBlock (interfaces : List Interface) (block : Framed) (before : ℕ) (numbered : Numbered) : Type 0 where
  pub body : Body
  pub rest : List ℕ
  pub says : SaysOfBody block (whole body rest)
  pub sections : numbered.sections ≡ sections_with body before
  pub number_is : IsNumberIn interfaces (packet_in interfaces body) numbered.number
  pub few : numbered.number < 2 ^ 95

-- A block is numbered, or its body is malformed, or there is no memory for it.
abbrev pub Numbers : List Interface → Framed → ℕ → Result Numbered PcapError → Type 0
Numbers interfaces block before (Ok numbered) = NumbersBlock interfaces block before numbered
Numbers interfaces block before (Err e) = RefusesParsing block e

-- The entry of a numbered block with so many bytes is kept, or memory ran out, or there are more bytes or sections than a sort counts.
abbrev pub KeepsNumbered : Numbered → ℕ → BlockEntries → BlockEntries → Option (Ended Unkept) → Type 0
KeepsNumbered numbered bytes old new None =
    (new.sections ≡ numbered.sections) × (numbered.sections < 2 ^ 33) × KeepsOne (rank_in numbered.sections numbered.number) bytes old.entries new.entries
KeepsNumbered numbered bytes old new (Some (Stopped Memory)) = ⊤
KeepsNumbered numbered bytes old new (Some (Stopped TooLong)) = (2 ^ 64 ≤ old.entries.place + bytes) ⊎ (2 ^ 33 ≤ numbered.sections)
KeepsNumbered numbered bytes old new (Some _) = ⊥

-- The entry of one more block is kept.
pub record KeepsRanked (item : Item) (text : List ℕ) (old new : BlockEntries) : Type 0 where
  pub rank : ℕ
  pub rank_is : IsRankOf item old.sections new.sections rank
  pub kept : KeepsOne rank (length text) old.entries new.entries
  pub few : new.sections < 2 ^ 33

-- One more block is more than a sort counts.
pub record IsBeyond (item : Item) (text : List ℕ) (old new : BlockEntries) : Type 0 where
  pub rank : ℕ
  pub sections : ℕ
  pub rank_is : IsRankOf item old.sections sections rank
  pub many : (2 ^ 64 ≤ old.entries.place + length text) ⊎ (2 ^ 33 ≤ sections)

-- The entry of one more block is kept, or the first pass ends there.
abbrev pub KeepsBlock : Item → List ℕ → BlockEntries → BlockEntries → Option (Ended Unkept) → Type 0
KeepsBlock item text old new None = KeepsRanked item text old new
KeepsBlock item text old new (Some (Refused e)) = RefusesParsing item.block e × (new ≡ old)
KeepsBlock item text old new (Some (Stopped Memory)) = ⊤
KeepsBlock item text old new (Some (Stopped TooLong)) = IsBeyond item text old new
KeepsBlock item text old new (Some _) = ⊥

-- Why the first pass ended after these blocks, and what it kept of them.
abbrev pub EndsBlocks : List Ranked → State → ℕ → Option (List ℕ) → Bool → BlockEntries → BlockEntries → Ended Unkept → Type 0
EndsBlocks records next sections rest failed old new AtEnd = IsAtEnd rest × (new.entries.list.items ≡ old.entries.list.items ++ entries_of old.entries.place records) × (new.sections ≡ sections)
EndsBlocks records next sections rest failed old new AtMost = 2 ^ 64 ≤ old.entries.place + length (texts_of records)
EndsBlocks records next sections rest failed old new (Refused e) = RefusesNext next rest failed e × (new.entries.place ≡ old.entries.place + length (texts_of records))
EndsBlocks records next sections rest failed old new (Stopped Memory) = ⊤
EndsBlocks records next sections rest failed old new (Stopped TooLong) = (2 ^ 64 ≤ old.entries.place + length (texts_of records)) ⊎ (2 ^ 33 ≤ sections)

-- Exactly these blocks were read after others, and then the first pass ended.
pub record ReadsBlocks (q : State) (before : Option (List ℕ)) (failed : Bool) (old new : BlockEntries) (ended : Ended Unkept) : Type 0 where
  pub records : List Ranked
  pub next : State
  pub sections : ℕ
  pub rest : Option (List ℕ)
  pub blocks : AreBlocks q old.sections records next sections
  pub took : Consumes before rest (texts_of records)
  pub ends : EndsBlocks records next sections rest failed old new ended
