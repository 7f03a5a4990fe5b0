-- The blocks that a selection reads and writes.
use Rattle.std.specs.Prelude.{◌≡◌, ◌<◌, ◌≤◌, ◌+◌, ◌-◌, ◌^◌, ◌⊎◌, ℕ, List, [], ◌∷◌, length, Bool, true, false, IsTrue, Option, None, Some, Result, Ok, Err, if◌then◌else◌}
use Rattle.std.specs.Io.KnownBytes.{Appends, Keeps}
use Rattle.pcap_core.specs.declared.errors.PcapError.{PcapError}
use Rattle.pcap_core.specs.Errors.{IsIo, IsMemory}
use Rattle.pcap_times.specs.declared.clock.Timestamp.{Timestamp}
use Rattle.pcap_blocks.specs.InterfaceDescription.{Interface}
use Rattle.pcap_ng.specs.Frames.{Framed}
use Rattle.pcap_ng.specs.State.{interfaces_at}
use Rattle.pcap_file.specs.Placed.{is_packet}
use Rattle.pcapfile_cut.specs.declared.cutting.Outcome.{Outcome}
use Rattle.pcapfile_cut.specs.BlockCuts.{Between, IsDone, Lent, Opens, Place, Refuses, TearsOpeningOf, block_outcome, bytes_in, has_packet, packets_in, place_of as place_in}
use Rattle.pcapfile_cut.specs.Cuts.{IsNew, counted}
use Rattle.pcapfile_cut.specs.Duplicates.{most_remembered, remembered}
use Rattle.pcapfile_cut.specs.Selections.{goes_behind}
use Rattle.pcapfile_selected.specs.declared.blocks.BlockSource.{BlockSource}
use Rattle.pcapfile_selected.specs.declared.blocks.changed.Changed.{Changed}
use Rattle.pcapfile_selected.specs.declared.blocks.changed.Changing.{Changing}
use Rattle.pcapfile_selected.specs.declared.blocks.deciding.Decision.{Decision}
use Rattle.pcapfile_selected.specs.declared.blocks.selected.Choosing.{Choosing}
use Rattle.pcapfile_selected.specs.declared.selecting.Tests.{Tests}
use Rattle.pcapfile_selected.specs.declared.source.Exceptions.{Exceptions}
use Rattle.pcapfile_selected.specs.Asked.{FindsFirst, IsLeastFirst}
use Rattle.pcapfile_selected.specs.Changing.{AsksSame, IsLongerSimple, PutsChanged, exceptions_changed, most_in}
use Rattle.pcapfile_selected.specs.Deciding.{Decides, duplicates_after, exceptions_after, is_written}

-- A selection, what it has written, and what it has counted.
pub record Run : Type 0 where
  pub choosing : Choosing
  pub out : Option (List ℕ)
  pub outcome : Outcome

abbrev pub run : Choosing → Option (List ℕ) → Outcome → Run
run choosing out outcome = record { choosing = choosing; out = out; outcome = outcome }

-- A block is written if it holds no packet, or if its packet is.
abbrev pub writes : Option Decision → Bool
writes None = true
writes (Some decision) = is_written decision

-- The count of packets after a block, if it holds one.
abbrev pub packets_after : Option Decision → ℕ → ℕ
packets_after None n = n
packets_after (Some decision) n = counted (n + 1)

-- A block of so many bytes with this decision is counted, with its packet, if it holds one.
pub record CountsLent (decision : Option Decision) (len : ℕ) (old new : Outcome) : Type 0 where
  pub packets : new.packets ≡ packets_after decision old.packets
  pub bytes : new.bytes ≡ counted (old.bytes + len)
  pub duplicates : new.duplicates ≡ elim decision [ None ↦ old.duplicates | Some it ↦ duplicates_after it old.duplicates ]
  pub write_failed : new.write_failed ≡ old.write_failed

-- So many more bytes are counted.
pub record CountsBytes (len : ℕ) (old new : Outcome) : Type 0 where
  pub packets : new.packets ≡ old.packets
  pub bytes : new.bytes ≡ counted (old.bytes + len)
  pub duplicates : new.duplicates ≡ old.duplicates
  pub write_failed : new.write_failed ≡ old.write_failed

-- One more block of so many bytes is counted, with its packet, if it holds one.
pub record CountsBlock (with_packet : Bool) (len : ℕ) (old new : Outcome) : Type 0 where
  pub packets : new.packets ≡ counted (old.packets + (if with_packet then 1 else 0))
  pub bytes : new.bytes ≡ counted (old.bytes + len)
  pub duplicates : new.duplicates ≡ old.duplicates
  pub write_failed : new.write_failed ≡ old.write_failed

-- A block was read that could not be handled: its packet is counted, if it holds one, and no byte.
pub record CountsTorn (with_packet : Bool) (old new : Outcome) : Type 0 where
  pub packets : new.packets ≡ (if with_packet then counted (old.packets + 1) else old.packets)
  pub bytes : new.bytes ≡ old.bytes
  pub duplicates : new.duplicates ≡ old.duplicates

-- The counts of exceptions after this decision on a block.
abbrev pub exceptions_decided : Option Decision → Exceptions → Exceptions
exceptions_decided None old = old
exceptions_decided (Some decision) old = exceptions_after decision old

-- What is done with the packet of a block, if it holds one. Its number is one more than the count of the packets before it.
abbrev pub DecidesLent : Run → Run → List Interface → Framed → Option Decision → Type 0
DecidesLent old new interfaces block None =
    (is_packet block.type_ ≡ false) × (new.choosing.sieve.recent ≡ old.choosing.sieve.recent) × (new.choosing.first ≡ old.choosing.first)
DecidesLent old new interfaces block (Some decision) =
    (is_packet block.type_ ≡ true)
    × FindsFirst old.choosing.asked interfaces block old.choosing.first new.choosing.first
    × Decides new.choosing.sieve.tests old.choosing.sieve.recent new.choosing.sieve.recent interfaces (counted (old.outcome.packets + 1)) block decision

-- A block was written after the changes, and what they left as it was is counted.
pub record WritesChanged (changing : Changing) (exceptions : Exceptions) (out : Option (List ℕ)) (new : Run) (interfaces : List Interface) (block : Framed)
    (text : List ℕ) : Type 0 where
  pub changed : Changed
  pub is_longer : Bool
  pub puts : PutsChanged changing interfaces block text out new.out (Ok changed)
  pub longer : IsLongerSimple (most_in changing.shortening) interfaces block is_longer
  pub exceptions_now : new.choosing.exceptions ≡ exceptions_changed changed is_longer exceptions

-- A block with this decision was written after the changes, or it was left out and nothing was written.
abbrev pub WritesLent : Option Decision → Run → Run → List Interface → Framed → List ℕ → Bool → Type 0
WritesLent decision old new interfaces block text true =
    WritesChanged old.choosing.changing (exceptions_decided decision old.choosing.exceptions) old.out new interfaces block text
WritesLent decision old new interfaces block text false =
    Keeps old.out new.out × (new.choosing.exceptions ≡ exceptions_decided decision old.choosing.exceptions)

-- The packet in a block was chosen or left out, and is counted.
pub record ChoosesPacket (old new : Choosing) (interfaces : List Interface) (block : Framed) (before after : Outcome) (is_chosen : Bool) : Type 0 where
  pub decision : Decision
  pub first : FindsFirst old.asked interfaces block old.first new.first
  pub decides : Decides new.sieve.tests old.sieve.recent new.sieve.recent interfaces (counted (before.packets + 1)) block decision
  pub chosen : is_chosen ≡ is_written decision
  pub exceptions : new.exceptions ≡ exceptions_after decision old.exceptions
  pub asked : new.asked ≡ old.asked
  pub changing : new.changing ≡ old.changing
  pub packets : after.packets ≡ counted (before.packets + 1)
  pub bytes : after.bytes ≡ before.bytes
  pub duplicates : after.duplicates ≡ duplicates_after decision before.duplicates
  pub write_failed : after.write_failed ≡ before.write_failed

-- Memory ran out while the packet of a block was read.
pub record ChoosesNone (old new : Choosing) (before after : Outcome) (e : PcapError) : Type 0 where
  pub memory : IsMemory e
  pub exceptions : new.exceptions ≡ old.exceptions
  pub counts : CountsTorn true before after
  pub write_failed : after.write_failed ≡ before.write_failed

-- Only the counts of exceptions and the memory for changes may be others.
pub record ChangesOnly (old new : Choosing) : Type 0 where
  pub asks : AsksSame old.changing new.changing
  pub sieve : new.sieve ≡ old.sieve
  pub asked : new.asked ≡ old.asked
  pub first : new.first ≡ old.first

-- The flag of failed writes after this error.
abbrev pub NotesFault : PcapError → Outcome → Outcome → Type 0
NotesFault e old new = (IsMemory e × (new.write_failed ≡ old.write_failed)) ⊎ (IsIo e × (new.write_failed ≡ true))

-- The counts after a block of so many bytes was written, or was not written whole.
abbrev pub CountsText : ℕ → Outcome → Outcome → Result (Unit {0}) PcapError → Type 0
CountsText len old new (Ok u) = CountsBytes len old new
CountsText len old new (Err e) = CountsTorn false old new × NotesFault e old new

-- A block was written after the changes. Or memory ran out before, or a write failed in it.
abbrev pub PutsText : Run → Run → List Interface → Framed → List ℕ → Result (Unit {0}) PcapError → Type 0
PutsText old new interfaces block text (Ok u) = WritesChanged old.choosing.changing old.choosing.exceptions old.out new interfaces block text
PutsText old new interfaces block text (Err e) =
    PutsChanged old.choosing.changing interfaces block text old.out new.out (Err e) × (new.choosing.exceptions ≡ old.choosing.exceptions)

-- A block was handled: it was written after the changes unless it holds a packet that is not selected, and counted.
pub record HandlesLent (old new : Run) (interfaces : List Interface) (block : Framed) (text : List ℕ) : Type 0 where
  pub decision : Option Decision
  pub decides : DecidesLent old new interfaces block decision
  pub wrote : WritesLent decision old new interfaces block text (writes decision)
  pub counts : CountsLent decision (length text) old.outcome new.outcome
  pub asks : AsksSame old.choosing.changing new.choosing.changing
  pub asked : new.choosing.asked ≡ old.choosing.asked

-- A block that is to be written could not be changed for lack of memory, or a write failed in it.
pub record TearsLent (old new : Run) (interfaces : List Interface) (block : Framed) (text : List ℕ) (e : PcapError) : Type 0 where
  pub decision : Option Decision
  pub decides : DecidesLent old new interfaces block decision
  pub is_to_be_written : IsTrue (writes decision)
  pub wrote : PutsChanged old.choosing.changing interfaces block text old.out new.out (Err e)
  pub exceptions : new.choosing.exceptions ≡ exceptions_decided decision old.choosing.exceptions

-- Memory ran out while the packet of a block was read, and nothing was written.
abbrev pub LacksMemory : Run → Run → PcapError → Type 0
LacksMemory old new e = IsMemory e × Keeps old.out new.out × (new.choosing.exceptions ≡ old.choosing.exceptions)

-- A block was read that could not be handled. A flag notes whether a write failed.
pub record FailsLent (old new : Run) (interfaces : List Interface) (block : Framed) (text : List ℕ) (e : PcapError) : Type 0 where
  pub why : LacksMemory old new e ⊎ TearsLent old new interfaces block text e
  pub counts : CountsTorn (is_packet block.type_) old.outcome new.outcome
  pub noted : NotesFault e old.outcome new.outcome

-- A block was handled, or it could not be.
abbrev pub PutsLent : Run → Run → List Interface → Framed → List ℕ → Result (Unit {0}) PcapError → Type 0
PutsLent old new interfaces block text (Ok u) = HandlesLent old new interfaces block text
PutsLent old new interfaces block text (Err e) = FailsLent old new interfaces block text e

-- The position of a capture that is read part by part.
abbrev pub place_of : {R : Type 0} → (R → Option (List ℕ)) → BlockSource R → Place
place_of remaining source = place_in remaining source.blocks

-- A lent block was put, given the interfaces of its section.
abbrev pub PutsBlock : Run → Run → Lent → Result (Unit {0}) PcapError → Type 0
PutsBlock old new block result = PutsLent old new (interfaces_at block.item.after) block.item.block block.text result

-- No number of the selection follows, or no block is left. Nothing was written.
abbrev pub EndsThere : Run → Run → Place → Place → Type 0
EndsThere old new a b = (new ≡ old) × (((b ≡ a) × (goes_behind old.choosing.sieve.tests.selection old.outcome.packets ≡ false)) ⊎ IsDone a b)

-- The next block is refused, and nothing was written. Or it was read, and it was not put whole.
abbrev pub FailsThere : Run → Run → Place → Place → PcapError → Type 0
FailsThere old new a b e = ((new ≡ old) × Refuses a b e) ⊎ ((block : Lent) × Between a b (block ∷ []) × PutsBlock old new block (Err e))

-- The next block was read and put. Or there is none that may be wanted.
abbrev pub SelectsNext : Run → Run → Place → Place → Result Bool PcapError → Type 0
SelectsNext old new a b (Ok true) = (block : Lent) × Between a b (block ∷ []) × PutsBlock old new block (Ok tt)
SelectsNext old new a b (Ok false) = EndsThere old new a b
SelectsNext old new a b (Err e) = FailsThere old new a b e

-- These blocks were put, one after another.
abbrev pub PutsAll : Run → List Lent → Run → Type 0
PutsAll old [] new = new ≡ old
PutsAll old (block ∷ blocks) new = (mid : Run) × PutsBlock old mid block (Ok tt) × PutsAll mid blocks new

-- The end of a selection that has put so many blocks.
abbrev pub EndsSelection : Run → Run → Place → Place → ℕ → Result (Unit {0}) PcapError → Type 0
EndsSelection old new a b blocks (Ok u) = EndsThere old new a b ⊎ ((new ≡ old) × (b ≡ a) × (blocks ≡ 2 ^ 64 - 1))
EndsSelection old new a b blocks (Err e) = FailsThere old new a b e

-- Blocks were put until the selection ended.
pub record SelectsBlocks (old new : Run) (a now : Place) (result : Result (Unit {0}) PcapError) : Type 0 where
  pub blocks : List Lent
  pub mid : Run
  pub b : Place
  pub between : Between a b blocks
  pub puts : PutsAll old blocks mid
  pub ends : EndsSelection mid new b now (length blocks) result

-- A position in a capture, what is counted before it, and the first time that tests were given before it.
pub record Spot : Type 0 where
  pub place : Place
  pub outcome : Outcome
  pub first : Option Timestamp

abbrev pub spot : Place → Outcome → Option Timestamp → Spot
spot place outcome first = record { place = place; outcome = outcome; first = first }

-- These blocks and their packets are counted.
pub record CountsBlocks (blocks : List Lent) (old new : Outcome) : Type 0 where
  pub packets : new.packets ≡ counted (old.packets + packets_in blocks)
  pub bytes : new.bytes ≡ counted (old.bytes + length (bytes_in blocks))
  pub duplicates : new.duplicates ≡ old.duplicates
  pub write_failed : new.write_failed ≡ old.write_failed

-- The first time after a block: it may be that of its packet, if it holds one.
abbrev pub NotesFirst : Tests → Lent → Option Timestamp → Option Timestamp → Type 0
NotesFirst asked block old new =
    ((has_packet block ≡ false) × (new ≡ old))
    ⊎ ((has_packet block ≡ true) × FindsFirst asked (interfaces_at block.item.after) block.item.block old new)

-- The first time after these blocks.
abbrev pub NotesAll : Tests → List Lent → Option Timestamp → Option Timestamp → Type 0
NotesAll asked [] old new = new ≡ old
NotesAll asked (block ∷ blocks) old new = (mid : Option Timestamp) × NotesFirst asked block old mid × NotesAll asked blocks mid new

-- The next block holds a packet, whose number is at least this one.
abbrev pub HasReached : ℕ → Spot → Place → Type 0
HasReached number a b =
    (block : Lent) × Between a.place b [] × (b.pending ≡ block ∷ []) × (has_packet block ≡ true) × (number ≤ counted (a.outcome.packets + 1))

-- The next block is refused, or there is no memory for what is read of it.
abbrev pub FailsAt : Place → Place → PcapError → Type 0
FailsAt a b e = Refuses a b e ⊎ ((m : Place) × Between a m [] × (Refuses m b e ⊎ ((b ≡ m) × IsMemory e)))

-- The next block was read and counted, if no packet of this number or above is in it.
abbrev pub PassesBlock : Tests → ℕ → Spot → Spot → Result Bool PcapError → Type 0
PassesBlock asked number a b (Ok true) =
    (block : Lent) × Between a.place b.place (block ∷ []) × CountsBlocks (block ∷ []) a.outcome b.outcome × NotesFirst asked block a.first b.first
    × (has_packet block ≡ true → b.outcome.packets < number)
PassesBlock asked number a b (Ok false) =
    (b.outcome ≡ a.outcome) × (b.first ≡ a.first) × (IsDone a.place b.place ⊎ HasReached number a b.place)
PassesBlock asked number a b (Err e) = (b.outcome ≡ a.outcome) × FailsAt a.place b.place e

-- The selection compares with the same packets, makes the same changes, and has the same counts.
pub record ChoosesSame (old new : Choosing) : Type 0 where
  pub recent : new.sieve.recent ≡ old.sieve.recent
  pub changing : new.changing ≡ old.changing
  pub asked : new.asked ≡ old.asked
  pub exceptions : new.exceptions ≡ old.exceptions

-- The end of skipping before the packet of this number.
abbrev pub EndsPassing : Tests → ℕ → Spot → Spot → ℕ → Result (Unit {0}) PcapError → Type 0
EndsPassing asked number b now blocks (Ok u) =
    ((now ≡ b) × ((number ≤ 1) ⊎ (blocks ≡ 2 ^ 64 - 1))) ⊎ PassesBlock asked number b now (Ok false)
EndsPassing asked number b now blocks (Err e) = (now.outcome ≡ b.outcome) × FailsAt b.place now.place e

-- The blocks before the packet of this number were read and counted.
pub record Passes (asked : Tests) (number : ℕ) (a now : Spot) (result : Result (Unit {0}) PcapError) : Type 0 where
  pub blocks : List Lent
  pub b : Spot
  pub between : Between a.place b.place blocks
  pub counts : CountsBlocks blocks a.outcome b.outcome
  pub first : NotesAll asked blocks a.first b.first
  pub below : (packets_in blocks ≡ 0) ⊎ (b.outcome.packets < number)
  pub ends : EndsPassing asked number b now (length blocks) result

-- The opening at this position was written, and blocks after it were put. Or a write failed in the opening.
abbrev pub OpensSelection : Run → Run → Place → Place → Result (Unit {0}) PcapError → Type 0
OpensSelection old new b now result =
    ((behind : Option (List ℕ)) × Appends old.out behind b.opening × SelectsBlocks (run old.choosing behind old.outcome) new b now result)
    ⊎ ((e : PcapError) × (result ≡ Err e) × TearsOpeningOf b now old.out new.out old.outcome new.outcome e)

-- A selection at this position.
abbrev pub spot_of : Place → Run → Spot
spot_of place run = spot place run.outcome run.choosing.first

-- Reading failed before the packet of this number, and nothing was written.
pub record FailsBefore (number : ℕ) (old new : Run) (a now : Place) (e : PcapError) : Type 0 where
  pub passes : Passes old.choosing.asked number (spot_of a old) (spot_of now new) (Err e)
  pub same : ChoosesSame old.choosing new.choosing
  pub wrote : Keeps old.out new.out

-- The blocks before the packet of this number were read, and the selected ones from it on were written after an opening.
pub record SelectsFrom (number : ℕ) (old new : Run) (a now : Place) (result : Result (Unit {0}) PcapError) : Type 0 where
  pub b : Place
  pub mid : Run
  pub passes : Passes old.choosing.asked number (spot_of a old) (spot_of b mid) (Ok tt)
  pub same : ChoosesSame old.choosing mid.choosing
  pub unwritten : mid.out ≡ old.out
  pub opens : OpensSelection mid new b now result

-- The selected blocks from the packet of this number on were written after an opening. Or reading failed before, and nothing was written.
abbrev pub SelectsPart : ℕ → Run → Run → Place → Place → Result (Unit {0}) PcapError → Type 0
SelectsPart number old new a now result =
    ((e : PcapError) × (result ≡ Err e) × FailsBefore number old new a now e) ⊎ SelectsFrom number old new a now result

-- No exception is counted.
abbrev pub no_exceptions : Exceptions
no_exceptions = record {
  malformed = 0;
  without_time = 0;
  duplicates = 0;
  uncompared = 0;
  whole_malformed = 0;
  whole_simple = 0;
  unmoved_malformed = 0;
  unmoved = 0;
}

-- The counts of exceptions of a capture that is read part by part.
abbrev pub exceptions_of : {R : Type 0} → BlockSource R → Exceptions
exceptions_of source = source.exceptions

-- A capture was opened: its first block was read, and no exception is counted. Or there is no memory, or the block is refused.
abbrev pub OpensBlocks : {R : Type 0} → (R → Option (List ℕ)) → R → Result (BlockSource R) PcapError → Type 0
OpensBlocks remaining stream (Ok source) = Opens remaining stream (Ok source.blocks) × (source.exceptions ≡ no_exceptions)
OpensBlocks remaining stream (Err e) = Opens remaining stream (Err e)

-- A selection that a user asks for, before any packet.
pub record Begins (asked : Tests) (choosing : Choosing) : Type 0 where
  pub tests : choosing.asked ≡ asked
  pub no_time : choosing.first ≡ None
  pub none : remembered choosing.sieve.recent ≡ []
  pub most : most_remembered choosing.sieve.recent ≡ asked.asked.now.dedup
  pub shift : choosing.changing.shift ≡ asked.asked.now.changes.shift
  pub snaplen : most_in choosing.changing.shortening ≡ asked.asked.now.changes.snaplen
  pub exceptions : choosing.exceptions ≡ no_exceptions

-- The counts that a selection reports.
pub record Report : Type 0 where
  pub outcome : Outcome
  pub exceptions : Exceptions

abbrev pub report : Outcome → Exceptions → Report
report outcome exceptions = record { outcome = outcome; exceptions = exceptions }

-- A part with the selected blocks was written, from the packet of the least number on.
pub record WritesPart (asked : Tests) (a now : Place) (out out_now : Option (List ℕ)) (told : Report) (result : Result (Unit {0}) PcapError) : Type 0 where
  pub begun : Choosing
  pub ended : Choosing
  pub begins : Begins asked begun
  pub number : ℕ
  pub least : IsLeastFirst asked.asked.now.numbers.items number
  pub old : Outcome
  pub new : IsNew old
  pub selects : SelectsPart number (run begun out old) (run ended out_now told.outcome) a now result
  pub exceptions : told.exceptions ≡ ended.exceptions

-- There was no memory for the digests with which duplicates are compared. Nothing was read, written or counted.
pub record WritesNothing (asked : Tests) (a now : Place) (out out_now : Option (List ℕ)) (counts : Outcome) (result : Result (Unit {0}) PcapError) : Type 0 where
  pub error : PcapError
  pub fails : result ≡ Err error
  pub memory : IsMemory error
  pub needed : 0 < asked.asked.now.dedup
  pub place : now ≡ a
  pub wrote : Keeps out out_now
  pub new : IsNew counts

-- A part with the selected blocks was written, or there was no memory to begin.
abbrev pub TriesPart : Tests → Place → Place → Option (List ℕ) → Option (List ℕ) → Report → Result (Unit {0}) PcapError → Type 0
TriesPart asked a now out out_now told result =
    WritesPart asked a now out out_now told result ⊎ WritesNothing asked a now out out_now told.outcome result

-- A part with the selected blocks was written, and the report has the counts and the error.
pub record WritesSelected (asked : Tests) (a now : Place) (out out_now : Option (List ℕ)) (told : Report) : Type 0 where
  pub counts : Report
  pub result : Result (Unit {0}) PcapError
  pub wrote : TriesPart asked a now out out_now counts result
  pub outcome : told.outcome ≡ block_outcome counts.outcome result now
  pub exceptions : told.exceptions ≡ record counts.exceptions { duplicates = counts.outcome.duplicates }
