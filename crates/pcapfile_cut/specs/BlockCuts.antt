-- The blocks that a cut of a PcapNg capture reads and writes.
use Rattle.std.specs.Prelude.{◌≡◌, ◌≤◌, ◌+◌, ◌-◌, ◌^◌, ◌++◌, ◌&&◌, ◌⊎◌, ℕ, List, [], ◌∷◌, length, map, filter, Bool, true, false, nat_le, nat_lt, if◌then◌else◌, Option, None, Some, Result, Ok, Err}
use Rattle.std.specs.Result.{result_err}
use Rattle.std.specs.Io.KnownBytes.{Appends, Consumes, Keeps}
use Rattle.pcap_core.specs.declared.errors.PcapError.{PcapError}
use Rattle.pcap_core.specs.Answer.{whole}
use Rattle.pcap_core.specs.Errors.{IsIo, IsMemory}
use Rattle.pcap_items.specs.Lent.{TakesText}
use Rattle.pcap_items.specs.Writing.{AppendsPart}
use Rattle.pcap_ng.specs.declared.pcapng.block_header.BlockHeader.{BlockHeader}
use Rattle.pcap_ng.specs.declared.pcapng.reader.PcapNgReader.{PcapNgReader}
use Rattle.pcap_ng.specs.Blocks.{Item, block_format}
use Rattle.pcap_ng.specs.Opening.{OpeningSays, RefusesOpening}
use Rattle.pcap_ng.specs.Reader.{lent_item, text_of}
use Rattle.pcap_ng.specs.State.{State}
use Rattle.pcap_file.specs.Placed.{is_packet}
use Rattle.pcap_file.specs.Placing.{RefusesNext, Source, TakesNone, source_of}
use Rattle.pcapfile_cut.specs.declared.blocks.BlockCutter.{BlockCutter}
use Rattle.pcapfile_cut.specs.declared.cutting.Outcome.{Outcome}
use Rattle.pcapfile_cut.specs.declared.wanted.Wanted.{Wanted}
use Rattle.pcapfile_cut.specs.declared.wanted.Wanted.TheVariants as wants
use Rattle.pcapfile_cut.specs.Cuts.{IsNew, SameCounts, counted}
use Rattle.pcapfile_cut.specs.Repeating.{Typed, opening_behind, opening_of, texts_of}

-- A block that was read, and its bytes.
pub record Lent : Type 0 where
  pub item : Item
  pub text : List ℕ

abbrev pub typed : Lent → Typed
typed block = record { type_ = block.item.block.type_; text = block.text }

-- The bytes of these blocks, concatenated.
abbrev pub bytes_in : List Lent → List ℕ
bytes_in blocks = texts_of (map typed blocks)

abbrev pub has_packet : Lent → Bool
has_packet block = is_packet block.item.block.type_

-- The number of packets in these blocks.
abbrev pub packets_in : List Lent → ℕ
packets_in blocks = length (filter has_packet blocks)

-- A position in a capture: what the reader has read, what a part begins with here, and the block that was read and is in no part yet, if
-- there is one.
pub record Place : Type 0 where
  pub source : Source
  pub opening : List ℕ
  pub pending : List Lent

-- The block with this header that a reader lends.
abbrev pub lent_with : {R : Type 0} → PcapNgReader R → BlockHeader → Lent
lent_with reader header = record { item = lent_item reader header; text = text_of reader }

abbrev pub pending_in : {R : Type 0} → PcapNgReader R → Option BlockHeader → List Lent
pending_in reader None = []
pending_in reader (Some header) = lent_with reader header ∷ []

abbrev pub place_of : {R : Type 0} → (R → Option (List ℕ)) → BlockCutter R → Place
place_of remaining blocks = record {
  source = source_of remaining blocks.reader;
  opening = opening_of blocks.repeated;
  pending = pending_in blocks.reader blocks.pending;
}

-- These blocks follow one another from one state to the next.
abbrev pub Follow : State → List Lent → State → Type 0
Follow q [] next = next ≡ q
Follow q (block ∷ blocks) next = block_format.says q block.text (whole block.item []) × Follow block.item.after blocks next

-- Exactly these blocks were read between two positions.
pub record Reads (a b : Place) (read : List Lent) : Type 0 where
  pub follow : Follow a.source.state read b.source.state
  pub took : Consumes a.source.left b.source.left (bytes_in read)
  pub opening : b.opening ≡ opening_behind a.opening (map typed read)
  pub goes_on : b.source.done ≡ a.source.done

-- Exactly these blocks are between two positions. A block that was read and is in no part yet is after a position.
pub record Between (a b : Place) (blocks : List Lent) : Type 0 where
  pub read : List Lent
  pub reads : Reads a b read
  pub all : a.pending ++ read ≡ blocks ++ b.pending

-- No block is left, and nothing was read.
pub record IsDone (a b : Place) : Type 0 where
  pub none : TakesNone a.source b.source
  pub done : b.source.done ≡ a.source.done
  pub opening : b.opening ≡ a.opening
  pub nothing : (a.pending ≡ []) × (b.pending ≡ [])

-- The next block ends the cut: it is truncated or malformed, or there is no memory to repeat it.
abbrev pub Refuses : Place → Place → PcapError → Type 0
Refuses a b e = (a.pending ≡ []) × (b.pending ≡ []) × (b.opening ≡ a.opening) × (RefusesNext a.source b.source e ⊎ IsMemory e)

-- The next block was read unless one was pending before.
abbrev pub LendsNext : Place → Place → Result (Option BlockHeader) PcapError → Type 0
LendsNext a b (Ok (Some header)) = Between a b []
LendsNext a b (Ok None) = IsDone a b
LendsNext a b (Err e) = Refuses a b e

-- A part with so many packets and bytes has enough.
abbrev pub is_enough : Wanted → ℕ → ℕ → Bool
is_enough wants.All packets bytes = false
is_enough (wants.Numbers first last) packets bytes = nat_le last packets
is_enough (wants.Bytes most) packets bytes = nat_lt 0 packets && nat_le most bytes
is_enough (wants.Selected selection) packets bytes = false

-- One more block of so many bytes is counted, and its packet if it has one.
pub record Counts (with_packet : Bool) (len : ℕ) (old new : Outcome) : Type 0 where
  pub packets : new.packets ≡ counted (old.packets + (if with_packet then 1 else 0))
  pub bytes : new.bytes ≡ counted (old.bytes + len)
  pub duplicates : new.duplicates ≡ old.duplicates
  pub unmoved : new.unmoved ≡ old.unmoved
  pub fault : new.fault ≡ old.fault
  pub read_failed : new.read_failed ≡ old.read_failed
  pub write_failed : new.write_failed ≡ old.write_failed

-- The cut wrote one more block. If it has a packet, the part did not have enough before.
pub record PutsBlock (wanted : Wanted) (a b : Place) (out out_now : Option (List ℕ)) (old new : Outcome) : Type 0 where
  pub block : Lent
  pub between : Between a b (block ∷ [])
  pub went : Appends out out_now block.text
  pub pending : b.pending ≡ []
  pub needed : has_packet block ≡ true → is_enough wanted old.packets old.bytes ≡ false
  pub counts : Counts (has_packet block) (length block.text) old new

-- The next block has a packet, and the part has enough without it.
pub record HasEnough (wanted : Wanted) (a b : Place) (packets bytes : ℕ) : Type 0 where
  pub block : Lent
  pub between : Between a b []
  pub pending : b.pending ≡ block ∷ []
  pub packet : has_packet block ≡ true
  pub enough : is_enough wanted packets bytes ≡ true

-- A write failed in the next block.
pub record TearsBlock (a b : Place) (out out_now : Option (List ℕ)) (new : Outcome) (e : PcapError) : Type 0 where
  pub block : Lent
  pub between : Between a b []
  pub pending : b.pending ≡ block ∷ []
  pub refused : IsIo e
  pub write_failed : new.write_failed ≡ true
  pub went : AppendsPart out out_now block.text

-- The cut ended before the next block, or in it.
abbrev pub FailsBlock : Place → Place → Option (List ℕ) → Option (List ℕ) → Outcome → PcapError → Type 0
FailsBlock a b out out_now new e = (Refuses a b e × Keeps out out_now × (new.write_failed ≡ false)) ⊎ TearsBlock a b out out_now new e

abbrev pub StepsBlocks : Wanted → Place → Place → Option (List ℕ) → Option (List ℕ) → Outcome → Outcome → Result Bool PcapError → Type 0
StepsBlocks wanted a b out out_now old new (Ok true) = PutsBlock wanted a b out out_now old new
StepsBlocks wanted a b out out_now old new (Ok false) = (IsDone a b ⊎ HasEnough wanted a b old.packets old.bytes) × Keeps out out_now × (new ≡ old)
StepsBlocks wanted a b out out_now old new (Err e) = FailsBlock a b out out_now new e × SameCounts old new

-- The last packet of these blocks was needed: without it the part did not have enough. Before these blocks the part had these counts.
abbrev pub LastIsNeeded : Wanted → ℕ → ℕ → List Lent → Type 0
LastIsNeeded wanted packets bytes blocks =
    (packets_in blocks ≡ 0)
    ⊎ ((before after : List Lent) × (last : Lent) × (blocks ≡ before ++ last ∷ after) × (packets_in after ≡ 0)
    × (is_enough wanted (counted (packets + packets_in before)) (counted (bytes + length (bytes_in before))) ≡ false))

-- The cut wrote exactly these blocks, and counted them.
pub record PutsBlocks (wanted : Wanted) (a b : Place) (out out_now : Option (List ℕ)) (old new : Outcome) (blocks : List Lent) : Type 0 where
  pub between : Between a b blocks
  pub went : Appends out out_now (bytes_in blocks)
  pub packets : new.packets ≡ counted (old.packets + packets_in blocks)
  pub bytes : new.bytes ≡ counted (old.bytes + length (bytes_in blocks))
  pub duplicates : new.duplicates ≡ old.duplicates
  pub unmoved : new.unmoved ≡ old.unmoved
  pub needed : LastIsNeeded wanted old.packets old.bytes blocks
  pub pending : ((blocks ≡ []) × (b ≡ a)) ⊎ (b.pending ≡ [])

-- The cut ended without an error: no block is left, or the part has enough. If other parts follow, this one goes on to the next packet.
abbrev pub EndsFine : Wanted → Bool → Place → Place → Outcome → ℕ → Type 0
EndsFine wanted others_follow b now outcome blocks =
    IsDone b now
    ⊎ HasEnough wanted b now outcome.packets outcome.bytes
    ⊎ ((now ≡ b) × (others_follow ≡ false) × (is_enough wanted outcome.packets outcome.bytes ≡ true))
    ⊎ ((now ≡ b) × (blocks ≡ 2 ^ 64 - 1))

-- The end of a cut of a part that has so many blocks.
abbrev pub EndsBlocks : Wanted → Bool → Place → Place → Option (List ℕ) → Option (List ℕ) → Outcome → ℕ → Result (Unit {0}) PcapError → Type 0
EndsBlocks wanted others_follow b now out out_now outcome blocks (Ok u) =
    EndsFine wanted others_follow b now outcome blocks × Keeps out out_now × (outcome.write_failed ≡ false)
EndsBlocks wanted others_follow b now out out_now outcome blocks (Err e) = FailsBlock b now out out_now outcome e

-- The cut wrote blocks until it ended.
pub record CutsBlocks (wanted : Wanted) (others_follow : Bool) (a now : Place) (out out_now : Option (List ℕ)) (old new : Outcome) (result : Result (Unit {0}) PcapError) : Type 0 where
  pub blocks : List Lent
  pub b : Place
  pub mid : Option (List ℕ)
  pub puts : PutsBlocks wanted a b out mid old new blocks
  pub ends : EndsBlocks wanted others_follow b now mid out_now new (length blocks) result

-- Nothing was read, and nothing is counted.
abbrev pub IsNothing : Place → Place → Outcome → Outcome → Result (Unit {0}) PcapError → Type 0
IsNothing a b old new result = (b ≡ a) × (new ≡ old) × (result ≡ Ok tt)

-- The blocks before the first wanted packet, and after the packet before it, were read and not written.
abbrev pub Skips : Wanted → Place → Place → Outcome → Outcome → Result (Unit {0}) PcapError → Type 0
Skips (wants.Numbers first last) a b old new result =
    ((first ≤ 1) × IsNothing a b old new result) ⊎ ((2 ≤ first) × CutsBlocks (wants.Numbers 1 (first - 1)) true a b None None old new result)
Skips _ a b old new result = IsNothing a b old new result

-- A write failed in the opening of a part.
pub record TearsOpeningOf (b now : Place) (out out_now : Option (List ℕ)) (old new : Outcome) (e : PcapError) : Type 0 where
  pub place : now ≡ b
  pub refused : IsIo e
  pub write_failed : new.write_failed ≡ true
  pub went : AppendsPart out out_now b.opening
  pub counts : SameCounts old new

-- The cut wrote the opening of a part, and then blocks.
pub record OpensBlocks (wanted : Wanted) (others_follow : Bool) (b now : Place) (out out_now : Option (List ℕ)) (old new : Outcome) (result : Result (Unit {0}) PcapError) : Type 0 where
  pub behind : Option (List ℕ)
  pub opened : Appends out behind b.opening
  pub cuts : CutsBlocks wanted others_follow b now behind out_now old new result

-- The cut of a part from the position behind the skipped blocks.
abbrev pub CutsBehindSkipped : Wanted → Bool → Place → Place → Option (List ℕ) → Option (List ℕ) → Outcome → Outcome → Result (Unit {0}) PcapError → Type 0
CutsBehindSkipped wanted others_follow b now out out_now old new result =
    OpensBlocks wanted others_follow b now out out_now old new result ⊎ ((e : PcapError) × (result ≡ Err e) × TearsOpeningOf b now out out_now old new e)

-- One part: it ended among the skipped blocks, and nothing was written, or it was written behind them.
abbrev pub CutsPartOf : Wanted → Bool → Place → Place → Option (List ℕ) → Option (List ℕ) → Outcome → Outcome → Result (Unit {0}) PcapError → Type 0
CutsPartOf wanted others_follow a now out out_now old new result =
    ((e : PcapError) × (result ≡ Err e) × Skips wanted a now old new (Err e) × Keeps out out_now)
    ⊎ ((b : Place) × (mid : Outcome) × Skips wanted a b old mid (Ok tt) × CutsBehindSkipped wanted others_follow b now out out_now mid new result)

-- The outcome of a cut that ended with this result, before this position.
abbrev pub block_outcome : Outcome → Result (Unit {0}) PcapError → Place → Outcome
block_outcome counts result now = record counts { fault = result_err result; read_failed = now.source.failed }

-- One part was cut, and the outcome says how far.
pub record CutsBlockPart (wanted : Wanted) (others_follow : Bool) (a now : Place) (out out_now : Option (List ℕ)) (outcome : Outcome) : Type 0 where
  pub old : Outcome
  pub new : Outcome
  pub result : Result (Unit {0}) PcapError
  pub is_new : IsNew old
  pub cuts : CutsPartOf wanted others_follow a now out out_now old new result
  pub told : outcome ≡ block_outcome new result now

-- A capture was opened: its first block was read, and the first part begins with it. Or there is no memory, or the block is refused.
abbrev pub Opens : {R : Type 0} → (R → Option (List ℕ)) → R → Result (BlockCutter R) PcapError → Type 0
Opens remaining stream (Ok blocks) =
    let place = place_of remaining blocks in
    TakesText OpeningSays (remaining stream) place.source.left place.opening place.source.state
    × (place.pending ≡ []) × (place.source.done ≡ false) × (place.source.failed ≡ false)
Opens remaining stream (Err e) = RefusesOpening (remaining stream) e ⊎ IsMemory e

-- The block with this header that the reader of a capture lends.
abbrev pub lent_by : {R : Type 0} → BlockCutter R → BlockHeader → Lent
lent_by blocks header = lent_with blocks.reader header

-- The next block was read, and is in no later part. `lent` is the block with each header that the reader lends now.
abbrev pub PassesNext : (BlockHeader → Lent) → Place → Place → Result (Option BlockHeader) PcapError → Type 0
PassesNext lent a b (Ok (Some header)) = Between a b (lent header ∷ [])
PassesNext lent a b (Ok None) = IsDone a b
PassesNext lent a b (Err e) = Refuses a b e

-- The next block was read unless one was pending before, and is in no part yet. `lent` is the block with each header that the reader
-- lends now.
abbrev pub PeeksNext : (BlockHeader → Lent) → Place → Place → Result (Option BlockHeader) PcapError → Type 0
PeeksNext lent a b (Ok (Some header)) = Between a b [] × (b.pending ≡ lent header ∷ [])
PeeksNext lent a b (Ok None) = IsDone a b
PeeksNext lent a b (Err e) = Refuses a b e

-- A position in a capture, what was written before it, and what is counted.
pub record Point : Type 0 where
  pub place : Place
  pub out : Option (List ℕ)
  pub outcome : Outcome

abbrev pub point : Place → Option (List ℕ) → Outcome → Point
point place out outcome = record { place = place; out = out; outcome = outcome }

-- One step of a cut leads from one point to another.
abbrev pub StepsFrom : Wanted → Point → Point → Result Bool PcapError → Type 0
StepsFrom wanted a b result = StepsBlocks wanted a.place b.place a.out b.out a.outcome b.outcome result

-- The blocks of a part lead from one point to another.
abbrev pub CutsFrom : Wanted → Bool → Point → Point → Result (Unit {0}) PcapError → Type 0
CutsFrom wanted others_follow a b result = CutsBlocks wanted others_follow a.place b.place a.out b.out a.outcome b.outcome result

-- A part with its opening leads from one point to another.
abbrev pub CutsPartFrom : Wanted → Bool → Point → Point → Result (Unit {0}) PcapError → Type 0
CutsPartFrom wanted others_follow a b result = CutsPartOf wanted others_follow a.place b.place a.out b.out a.outcome b.outcome result
