-- The effects of a conversion from PcapNg to a classic capture on its reader and its writer.
use Rattle.std.specs.Prelude.{◌≡◌, ◌<◌, ◌+◌, ◌⊎◌, ℕ, List, [], length, Bool, true, false, Option, None, Some, Result, Ok, Err}
use Rattle.std.specs.Option.{IsSomeAnd}
use Rattle.std.specs.Result.{result_err}
use Rattle.std.specs.List.{AllZip, flat_map}
use Rattle.std.specs.Io.KnownBytes.{Appends, Keeps, IsAtEnd}
use Rattle.pcap_core.specs.declared.errors.PcapError.{PcapError}
use Rattle.pcap_core.specs.declared.errors.PcapError.TheVariants as errors
use Rattle.pcap_core.specs.declared.rules.Rule.TheVariants.{CaptureMagic}
use Rattle.pcap_core.specs.Answer.{lacks, faulty, Refuses}
use Rattle.pcap_core.specs.Errors.{IsIo}
use Rattle.pcap_core.specs.Faults.{Names}
use Rattle.pcap_items.specs.Format.{state_after}
use Rattle.pcap_items.specs.Reading.{HasCause, Takes, TakesAsked}
use Rattle.pcap_items.specs.Takes.{TakesTexts}
use Rattle.pcap_items.specs.Writing.{AppendsPart}
use Rattle.pcap_blocks.specs.InterfaceDescription.{Interface}
use Rattle.pcap_classic.specs.declared.pcap.header.PcapHeader.{PcapHeader}
use Rattle.pcap_classic.specs.declared.pcap.writer.PcapWriter.{PcapWriter}
use Rattle.pcap_classic.specs.Magic.{is_magic}
use Rattle.pcap_classic.specs.PacketText.{Captured}
use Rattle.pcap_classic.specs.Writing as writers
use Rattle.pcap_classic.specs.Written.{written_under}
use Rattle.pcap_ng.specs.declared.pcapng.reader.PcapNgReader.{PcapNgReader}
use Rattle.pcap_file.specs.declared.run.placing.Became.{Became}
use Rattle.pcap_file.specs.declared.run.placing.Became.TheVariants as became
use Rattle.pcap_file.specs.declared.run.placing.IfUnplaced.{IfUnplaced}
use Rattle.pcap_file.specs.declared.run.placing.IfUnplaced.TheVariants.{LeaveOut, Refuse}
use Rattle.pcap_file.specs.declared.run.placing.NgConverted.{NgConverted}
use Rattle.pcap_file.specs.declared.run.unplaced.PlacedPacket.{PlacedPacket}
use Rattle.pcap_file.specs.declared.run.unplaced.Unplaced.{Unplaced}
use Rattle.pcap_ng.specs.Blocks.{Item, block_format}
use Rattle.pcap_ng.specs.Bodies.{GrowsInBody, SaysOfBody}
use Rattle.pcap_ng.specs.Frames.{Framed}
use Rattle.pcap_file.specs.Placed.{Becomes, BecomesIn, Turn, captured_of, is_packet, packet_of_turn, no_packet, packets_of, placed, reason_of_turn, reasons_of, unplaced, unplaced_message}
use Rattle.pcap_ng.specs.State.{interfaces_at}
use Rattle.pcap_ng.specs.Reader as readers
use Rattle.pcap_ng.specs.State.{State}

-- A source is the state of a reader: what is in force, what is left of its stream, whether a read failed, and whether it refused bytes.
pub record Source : Type 0 where
  pub state : State
  pub left : Option (List ℕ)
  pub failed : Bool
  pub done : Bool

abbrev pub source_of : {T : Type 0} → (T → Option (List ℕ)) → PcapNgReader T → Source
source_of remaining reader =
    record { state = readers.state_of reader; left = remaining (readers.stream_of reader); failed = readers.has_failed reader; done = readers.is_done reader }

-- A sink is the state of a writer: what it has written, and whether a write failed.
pub record Sink : Type 0 where
  pub out : Option (List ℕ)
  pub failed : Bool

abbrev pub sink_of : {W : Type 0} → (W → Option (List ℕ)) → PcapWriter W → Sink
sink_of contents writer = record { out = contents (writers.stream_of writer); failed = writers.has_failed writer }

-- Nothing was written.
pub record IsQuiet (c d : Sink) : Type 0 where
  pub out : Keeps c.out d.out
  pub failed : d.failed ≡ c.failed

-- The next block was taken, and the reader's state is the one behind that block.
pub record TakesNext (a b : Source) (item : Item) : Type 0 where
  pub took : Takes (block_format.says a.state) a.left b.left item
  pub leads : item.after ≡ b.state
  pub no_read_failed : b.failed ≡ false
  pub went_on : a.done ≡ false
  pub goes_on : b.done ≡ false

-- No block was taken, since the stream is at its end or the reader has refused something before.
pub record TakesNone (a b : Source) : Type 0 where
  pub why : IsAtEnd a.left ⊎ (a.done ≡ true)
  pub taken : Keeps a.left b.left
  pub state : b.state ≡ a.state
  pub no_read_failed : b.failed ≡ true → a.failed ≡ true

-- The next block is refused, and no more bytes were taken than the reader asked for.
pub record RefusesNext (a b : Source) (e : PcapError) : Type 0 where
  pub cause : HasCause (block_format.says a.state) a.left b.failed e
  pub part : TakesAsked (block_format.says a.state) a.left b.left
  pub state : b.state ≡ a.state
  pub ended : b.done ≡ true

-- The error has this message.
abbrev pub HasMessage : List ℕ → PcapError → Type 0
HasMessage text (errors.InvalidField message) = message.now ≡ text
HasMessage text _ = ⊥

-- RefusesBody: the body of a block that holds a packet is refused, or there is no memory for its list of options.
pub record RefusesBody (b : Framed) (c d : Sink) (e : PcapError) : Type 0 where
  pub of_packet : is_packet b.type_ ≡ true
  pub refused : Refuses (GrowsInBody b) (λ n. SaysOfBody b (lacks n)) (λ fault. SaysOfBody b (faulty fault)) e
  pub out : IsQuiet c d

-- RefusesPacket: a packet has no place, and the caller chose to refuse such packets.
pub record RefusesPacket (header : PcapHeader) (choice : IfUnplaced) (interfaces : List Interface) (b : Framed) (c d : Sink) (e : PcapError) : Type 0 where
  pub asked : choice ≡ Refuse
  pub reason : Unplaced
  pub becomes : BecomesIn interfaces header.datalink b (unplaced reason)
  pub message : HasMessage (unplaced_message reason) e
  pub out : IsQuiet c d

-- TearsPacket: a write failed while a packet was written.
pub record TearsPacket (header : PcapHeader) (interfaces : List Interface) (b : Framed) (c d : Sink) (e : PcapError) : Type 0 where
  pub packet : Captured
  pub becomes : BecomesIn interfaces header.datalink b (placed packet)
  pub refused : IsIo e
  pub write_failed : d.failed ≡ true
  pub out : AppendsPart c.out d.out (written_under header packet)

-- FailsBlock gives the causes why a block that was taken ends a conversion.
abbrev pub FailsBlock : PcapHeader → IfUnplaced → List Interface → Framed → Sink → Sink → PcapError → Type 0
FailsBlock header choice interfaces b c d e = RefusesBody b c d e ⊎ RefusesPacket header choice interfaces b c d e ⊎ TearsPacket header interfaces b c d e

-- PlacesBlock: the packet of a block was written, or nothing was written because the block has no packet or one that is left out,
-- or the block ends the conversion.
abbrev pub PlacesBlock : PcapHeader → IfUnplaced → List Interface → Framed → Sink → Sink → Result Became PcapError → Type 0
PlacesBlock header choice interfaces b c d (Ok became.Packet) =
    (packet : Captured) × BecomesIn interfaces header.datalink b (placed packet) × Appends c.out d.out (written_under header packet) × (d.failed ≡ c.failed)
PlacesBlock header choice interfaces b c d (Ok became.LeftOut) =
    (choice ≡ LeaveOut) × ((reason : Unplaced) × BecomesIn interfaces header.datalink b (unplaced reason)) × IsQuiet c d
PlacesBlock header choice interfaces b c d (Ok became.NoPacket) = BecomesIn interfaces header.datalink b no_packet × IsQuiet c d
PlacesBlock header choice interfaces b c d (Err e) = FailsBlock header choice interfaces b c d e

-- PutsPlaced: a packet that has a place was written, and a packet that has none was refused or left out.
abbrev pub PutsPlaced : PcapHeader → IfUnplaced → Result PlacedPacket Unplaced → Sink → Sink → Result Became PcapError → Type 0
PutsPlaced header choice (Ok packet) c d (Ok became.Packet) = Appends c.out d.out (written_under header (captured_of packet)) × (d.failed ≡ c.failed)
PutsPlaced header choice (Ok packet) c d (Err e) = IsIo e × (d.failed ≡ true) × AppendsPart c.out d.out (written_under header (captured_of packet))
PutsPlaced header choice (Err reason) c d (Ok became.LeftOut) = (choice ≡ LeaveOut) × IsQuiet c d
PutsPlaced header choice (Err reason) c d (Err e) = (choice ≡ Refuse) × HasMessage (unplaced_message reason) e × IsQuiet c d
PutsPlaced header choice _ c d _ = ⊥

-- FailsNext: the next block ends the conversion, because the reader refuses it or because it fails after it was taken.
abbrev pub FailsNext : PcapHeader → IfUnplaced → Source → Source → Sink → Sink → PcapError → Type 0
FailsNext header choice a b c d e =
    (RefusesNext a b e × IsQuiet c d) ⊎ ((item : Item) × TakesNext a b item × FailsBlock header choice (interfaces_at item.after) item.block c d e)

-- Goes: the packet that a block becomes was written, or nothing if the block holds none or one that may be left out.
pub record Goes (header : PcapHeader) (choice : IfUnplaced) (turn : Turn) (c d : Sink) : Type 0 where
  pub allowed : choice ≡ Refuse → reason_of_turn turn ≡ []
  pub out : Appends c.out d.out (flat_map (written_under header) (packet_of_turn turn))
  pub no_write_failed : d.failed ≡ c.failed

-- The number of packets that were written for a block.
abbrev pub packets_in : Became → ℕ
packets_in became.Packet = 1
packets_in became.LeftOut = 0
packets_in became.NoPacket = 0

-- The number of packets of a block that were left out.
abbrev pub left_out_in : Became → ℕ
left_out_in became.Packet = 0
left_out_in became.LeftOut = 1
left_out_in became.NoPacket = 0

-- CountsTurn: one more block is counted, together with its packet or its packet that was left out.
pub record CountsTurn (turn : Turn) (old new : NgConverted) : Type 0 where
  pub blocks : new.blocks ≡ old.blocks + 1
  pub packets : new.packets ≡ old.packets + length (packet_of_turn turn)
  pub left_out : new.left_out ≡ old.left_out + length (reason_of_turn turn)

-- CountsBecame: one more block is counted, together with its packet or its packet that was left out.
pub record CountsBecame (what : Became) (old new : NgConverted) : Type 0 where
  pub blocks : new.blocks ≡ old.blocks + 1
  pub packets : new.packets ≡ old.packets + packets_in what
  pub left_out : new.left_out ≡ old.left_out + left_out_in what

-- PlacesNext: one block was taken, and the packet that it becomes was written.
pub record PlacesNext (header : PcapHeader) (choice : IfUnplaced) (a b : Source) (c d : Sink) (old new : NgConverted) : Type 0 where
  pub item : Item
  pub turn : Turn
  pub next : TakesNext a b item
  pub becomes : Becomes header.datalink item turn
  pub goes : Goes header choice turn c d
  pub counts : CountsTurn turn old new

-- StepsPlacing: one step of a conversion takes one block, or finds no block, or ends with an error.
abbrev pub StepsPlacing : PcapHeader → IfUnplaced → Source → Source → Sink → Sink → NgConverted → NgConverted → Result Bool PcapError → Type 0
StepsPlacing header choice a b c d old new (Ok true) = PlacesNext header choice a b c d old new
StepsPlacing header choice a b c d old new (Ok false) = TakesNone a b × IsQuiet c d × (new ≡ old)
StepsPlacing header choice a b c d old new (Err e) = FailsNext header choice a b c d e × (new ≡ old)

-- PlacesAll: blocks were taken and counted, each became its turn, and exactly the packets with a place were written.
pub record PlacesAll (header : PcapHeader) (choice : IfUnplaced) (a b : Source) (c d : Sink) (converted : NgConverted) : Type 0 where
  pub items : List Item
  pub turns : List Turn
  pub took : TakesTexts block_format a.state items a.left b.left
  pub in_force : state_after block_format a.state items ≡ b.state
  pub goes_on : b.done ≡ a.done
  pub none_behind_a_refusal : a.done ≡ true → items ≡ []
  pub become : AllZip (Becomes header.datalink) items turns
  pub allowed : choice ≡ Refuse → reasons_of turns ≡ []
  pub out : Appends c.out d.out (flat_map (written_under header) (packets_of turns))
  pub blocks : converted.blocks ≡ length items
  pub packets : converted.packets ≡ length (packets_of turns)
  pub left_out : converted.left_out ≡ length (reasons_of turns)

-- EndsPlacing: the conversion ended at the end of the stream or at the limit of blocks, or with an error before the limit.
abbrev pub EndsPlacing : PcapHeader → IfUnplaced → Source → Source → Sink → Sink → ℕ → ℕ → Option PcapError → Type 0
EndsPlacing header choice a b c d n most None = ((b ≡ a) × (d ≡ c) × (n ≡ most)) ⊎ (TakesNone a b × IsQuiet c d)
EndsPlacing header choice a b c d n most (Some e) = (n < most) × FailsNext header choice a b c d e

-- PlacesBlocks: blocks were converted until the conversion ended.
pub record PlacesBlocks (header : PcapHeader) (choice : IfUnplaced) (a b : Source) (c d : Sink) (most : ℕ) (converted : NgConverted) : Type 0 where
  pub mid : Source
  pub between : Sink
  pub so_far : PlacesAll header choice a mid c between converted
  pub ends : EndsPlacing header choice mid b between d converted.blocks most converted.fault

-- Nothing is counted yet.
pub record IsNew (converted : NgConverted) : Type 0 where
  pub blocks : converted.blocks ≡ 0
  pub packets : converted.packets ≡ 0
  pub left_out : converted.left_out ≡ 0

-- CannotWrite: an earlier write of the writer failed, or its header has none of the four magic numbers.
abbrev pub CannotWrite : PcapHeader → Sink → Option PcapError → Type 0
CannotWrite header c fault =
    ((c.failed ≡ true) × (fault ≡ Some errors.WriterFailed))
    ⊎ ((c.failed ≡ false) × (is_magic header.magic_number ≡ false) × IsSomeAnd fault (Names CaptureMagic))

-- RefusesWriter: the writer is refused, nothing was taken, and nothing was written.
pub record RefusesWriter (header : PcapHeader) (a b : Source) (c d : Sink) (converted : NgConverted) : Type 0 where
  pub why : CannotWrite header c converted.fault
  pub none : IsNew converted
  pub reader : b ≡ a
  pub writer : d ≡ c

-- PlacesRun: in one conversion, the writer is refused or blocks are converted.
abbrev pub PlacesRun : PcapHeader → IfUnplaced → Source → Source → Sink → Sink → ℕ → NgConverted → Type 0
PlacesRun header choice a b c d most converted = RefusesWriter header a b c d converted ⊎ PlacesBlocks header choice a b c d most converted

-- The record of a conversion that ended with this result.
abbrev pub outcome_of : NgConverted → Result (Unit {0}) PcapError → NgConverted
outcome_of converted result = record converted { fault = result_err result }
