-- The bytes that a copy of a classic capture takes from its reader and writes to its writer.
use Rattle.std.specs.Prelude.{◌≡◌, ◌≤◌, ◌⊎◌, ℕ, List, [], ◌∷◌, ◌++◌, length, IsTrue, true, false, Option, None, Some, IfSome, Result, Ok, Err}
use Rattle.std.specs.Option.{IsSomeAnd}
use Rattle.std.specs.Io.KnownBytes.{Appends, Keeps}
use Rattle.pcap_core.specs.declared.errors.PcapError.{PcapError}
use Rattle.pcap_classic.specs.declared.pcap.header.PcapHeader.{PcapHeader}
use Rattle.pcap_core.specs.declared.rules.Rule.TheVariants.{CaptureMagic}
use Rattle.pcap_classic.specs.declared.run.copy.Copied.{Copied}
use Rattle.pcap_classic.specs.declared.run.copy.Under.{Under}
use Rattle.pcap_classic.specs.declared.run.copy.Under.TheVariants.{Same, Header, Order}
use Rattle.pcap_classic.specs.declared.run.copy.PacketsAhead.{PacketsAhead}
use Rattle.pcap_classic.specs.declared.run.copy.UnderHeader.{UnderHeader}
use Rattle.pcap_items.specs.declared.stream.copying.Tally.{Tally}
use Rattle.pcap_core.specs.Answer.{Verdict, whole}
use Rattle.pcap_items.specs.Copying as core
use Rattle.pcap_items.specs.Copying.{NothingCopied, each_written}
use Rattle.pcap_core.specs.Errors.{IsMemory, IsIo}
use Rattle.pcap_core.specs.Faults.{Names}
use Rattle.pcap_items.specs.Format.{Texts}
use Rattle.pcap_classic.specs.Front.{CaptureFront}
use Rattle.pcap_classic.specs.HeaderText.{HeaderText, HeaderSays}
use Rattle.pcap_classic.specs.Magic.{magic_for, is_magic}
use Rattle.pcap_classic.specs.Packets.{format_under}
use Rattle.pcap_classic.specs.PacketText.{Captured, packet_limit}
use Rattle.pcap_items.specs.Reading.{Takes, ReadsTold}
use Rattle.pcap_items.specs.Takes.{EndsFront}
use Rattle.pcap_classic.specs.Writing.{IsWritable}
use Rattle.pcap_items.specs.Writing.{AppendsPart, WritesAll}
use Rattle.pcap_classic.specs.Written.{written_header, written_under, capture}

-- The header under which a copy is written, from the header that was read.
abbrev pub header_under : Under → PcapHeader → PcapHeader
header_under Same read = read
header_under (Header header) read = header
header_under (Order e r) read = record read { magic_number = magic_for e r }

-- The given header, if there is one, has one of the four magic numbers.
abbrev pub CanBeUnder : Under → Type 0
CanBeUnder Same = Unit {0}
CanBeUnder (Header header) = IsWritable header
CanBeUnder (Order e r) = Unit {0}

-- The grammar's verdict on the packet at the front of bytes after this header.
abbrev pub PacketIsSaid : PcapHeader → List ℕ → Verdict Captured → Type 0
PacketIsSaid header = (format_under packet_limit header).says tt

-- The result of a copy with this tally and this fault, or none.
abbrev pub copied_of : Tally → Option PcapError → Copied
copied_of tally fault = record { packets = tally.items; fault = fault; read_failed = tally.read_failed; write_failed = tally.write_failed }

-- The held bytes are an item, and its text was written, or a write failed.
abbrev pub WritesHeld : {V : Type 0} → (List ℕ → Verdict V → Type 0) → (V → List ℕ) → List ℕ → Option (List ℕ) → Option (List ℕ) → Result (Unit {0}) PcapError → Type 0
WritesHeld {V = V} IsSaid text held out_before out_now result = (v : V) × IsSaid held (whole v []) × WritesAll out_before out_now (text v) result

-- The given header is refused: nothing was taken, and nothing was written.
pub record RefusesUnder (under : Under) (before now out_before out_now : Option (List ℕ)) (copied : Copied) : Type 0 where
  pub invalid : CanBeUnder under → ⊥
  pub refused : IsSomeAnd copied.fault (Names CaptureMagic)
  pub none : copied.packets ≡ 0
  pub no_read_failed : copied.read_failed ≡ false
  pub no_write_failed : copied.write_failed ≡ false
  pub taken : Keeps before now
  pub out : Keeps out_before out_now

-- The reader's header is refused: nothing was written.
pub record RefusesHeader (under : Under) (before now out_before out_now : Option (List ℕ)) (copied : Copied) : Type 0 where
  pub valid : CanBeUnder under
  pub refused : IsSomeAnd copied.fault (λ e. ReadsTold HeaderSays (λ (header : PcapHeader). header) before now copied.read_failed (Err e))
  pub none : copied.packets ≡ 0
  pub no_write_failed : copied.write_failed ≡ false
  pub out : Keeps out_before out_now

-- A write failed in the header's text.
pub record TearsHeader (under : Under) (before now out_before out_now : Option (List ℕ)) (copied : Copied) : Type 0 where
  pub header : PcapHeader
  pub valid : CanBeUnder under
  pub read : Takes HeaderSays before now header
  pub refused : IsSomeAnd copied.fault IsIo
  pub none : copied.packets ≡ 0
  pub no_read_failed : copied.read_failed ≡ false
  pub write_failed : copied.write_failed ≡ true
  pub out : AppendsPart out_before out_now (written_header (header_under under header))

-- Why a copy of the packets after a header ended, where `text` is what is written for each packet.
abbrev pub Ends : (Captured → List ℕ) → PcapHeader → Option (List ℕ) → Option (List ℕ) → Option (List ℕ) → Option (List ℕ) → ℕ → Copied → Type 0
Ends text header left now mid out_now most copied =
    core.Ends (each_written text) (PacketIsSaid header) left now mid out_now most copied.packets copied.fault copied.read_failed copied.write_failed

-- The packets after a header were copied, `text` for each, until the copy ended.
abbrev pub CopiesBehind : (Captured → List ℕ) → PcapHeader → Option (List ℕ) → Option (List ℕ) → Option (List ℕ) → Option (List ℕ) → ℕ → Copied → Type 0
CopiesBehind text header before now out_before out_now most copied =
    core.CopiesBehind (format_under packet_limit header) (each_written text) tt before now out_before out_now most copied.packets copied.fault copied.read_failed copied.write_failed

-- The header was taken and written, and then packets were copied.
pub record CopiesPackets (under : Under) (before now out_before out_now : Option (List ℕ)) (most : ℕ) (copied : Copied) : Type 0 where
  pub header : PcapHeader
  pub behind : Option (List ℕ)
  pub out_behind : Option (List ℕ)
  pub valid : CanBeUnder under
  pub read : Takes HeaderSays before behind header
  pub out : Appends out_before out_behind (written_header (header_under under header))
  pub packets : CopiesBehind (written_under (header_under under header)) header behind now out_behind out_now most copied

-- A copy ends in one of four ways: it refuses the given header, or the reader's; a write fails in the header's text; or it copies
-- packets.
abbrev pub Copies : Type 0 → Under → Option (List ℕ) → Option (List ℕ) → Option (List ℕ) → Option (List ℕ) → Copied → Type 0
Copies CopiesThem under before now out_before out_now copied =
    RefusesUnder under before now out_before out_now copied
    ⊎ RefusesHeader under before now out_before out_now copied
    ⊎ TearsHeader under before now out_before out_now copied
    ⊎ CopiesThem

-- The header was taken, and written as `under` demands.
pub record OpensCopy (under : Under) (before now out_before out_now : Option (List ℕ)) (header out : PcapHeader) (tally : Tally) : Type 0 where
  pub valid : CanBeUnder under
  pub read : Takes HeaderSays before now header
  pub asked : out ≡ header_under under header
  pub went : Appends out_before out_now (written_header out)
  pub magic : IsTrue (is_magic header.magic_number)
  pub magic_out : IsTrue (is_magic out.magic_number)
  pub new : NothingCopied tally

-- The result of beginning a copy: the packets still to be copied, or why the copy ended there.
abbrev pub BeginsCopy : Under → Option (List ℕ) → Option (List ℕ) → Option (List ℕ) → Option (List ℕ) → Tally → Result (PacketsAhead UnderHeader) PcapError → Type 0
BeginsCopy under before now out_before out_now tally (Ok ahead) = OpensCopy under before now out_before out_now ahead.header ahead.puts.out tally
BeginsCopy under before now out_before out_now tally (Err e) = Copies ⊥ under before now out_before out_now (copied_of tally (Some e))

-- The facts about a copy, whether or not the reader's bytes are known.
abbrev pub CopyRun : Under → Option (List ℕ) → Option (List ℕ) → Option (List ℕ) → Option (List ℕ) → ℕ → Copied → Type 0
CopyRun under before now out_before out_now most copied = Copies (CopiesPackets under before now out_before out_now most copied) under before now out_before out_now copied

-- s is a header's text, the texts of packets, and then left.
abbrev pub CaptureTexts : PcapHeader → List Captured → List ℕ → List ℕ → Type 0
CaptureTexts header packets s left = (after : List ℕ) × HeaderText header s after × Texts (format_under packet_limit header) tt packets after left

-- The written packets are a beginning of the front's packets. Without a fault exactly the header and these packets were taken, and they
-- are all packets, with an empty rest, or the first `most`. A failed write tore the next packet of the front, which was taken. If the
-- reader's bytes are refused, the fault is that of the rest, after all packets of the front, and no more was taken than was requested.
pub record CopiesFront (under : Under) (bytes : List ℕ) (now out_before out_now : Option (List ℕ)) (most : ℕ) (copied : Copied) : Type 0 where
  pub header : PcapHeader
  pub packets : List Captured
  pub more : List Captured
  pub left : List ℕ
  pub rest : List ℕ
  pub mid : Option (List ℕ)
  pub valid : CanBeUnder under
  pub front : CaptureFront packet_limit header (packets ++ more) bytes rest
  pub texts : CaptureTexts header packets bytes left
  pub count : length packets ≡ copied.packets
  pub within : copied.packets ≤ most
  pub out : Appends out_before mid (capture (header_under under header) packets)
  pub ends : Ends (written_under (header_under under header)) header (Some left) now mid out_now most copied
  pub wrote : copied.write_failed ≡ false → EndsFront (PacketIsSaid header) rest more copied.read_failed copied.packets most copied.fault
  pub tore : copied.write_failed ≡ true → (packet : Captured) × (others : List Captured) × (more ≡ packet ∷ others) × Takes (PacketIsSaid header) (Some left) now packet

-- The facts about a copy if the reader's bytes are known.
abbrev pub CopyFront : Under → List ℕ → Option (List ℕ) → Option (List ℕ) → Option (List ℕ) → ℕ → Copied → Type 0
CopyFront under bytes now out_before out_now most copied = Copies (CopiesFront under bytes now out_before out_now most copied) under (Some bytes) now out_before out_now copied

-- Memory sufficed, and no read and no write failed.
pub record NothingFailed (copied : Copied) : Type 0 where
  pub no_read_failed : copied.read_failed ≡ false
  pub no_write_failed : copied.write_failed ≡ false
  pub memory : IfSome copied.fault (λ e. IsMemory e → ⊥)

-- There was no fault, and the header and all of these packets were written.
pub record CopiesAll (header : PcapHeader) (packets : List Captured) (out_before out_now : Option (List ℕ)) (copied : Copied) : Type 0 where
  pub fine : copied.fault ≡ None
  pub count : copied.packets ≡ length packets
  pub out : Appends out_before out_now (capture header packets)
