-- The packets of a part of a classic capture that has a span of time.
use Rattle.std.specs.Prelude.{◌≡◌, ◌+◌, ◌-◌, ◌^◌, ◌⊎◌, ℕ, zero, suc, List, Bool, true, false, IsTrue, is_some, Option}
use Rattle.std.specs.Io.KnownBytes.{IsAtEnd, Keeps}
use Rattle.std.specs.declared.io.Error.{Error}
use Rattle.pcap_times.specs.declared.clock.Timestamp.{Timestamp}
use Rattle.pcap_classic.specs.declared.pcap.header.PcapHeader.{PcapHeader}
use Rattle.pcapfile_cut.specs.declared.cutting.Outcome.{Outcome}
use Rattle.pcapfile_cut.specs.declared.opening.Opening.{Opening}
use Rattle.pcapfile_cut.specs.declared.wanted.Wanted.{Wanted}
use Rattle.pcapfile_cut.specs.declared.wanted.Wanted.TheVariants as wants
use Rattle.pcapfile_cut.specs.Cuts.{CutsBehind, CutsPart, counted}
use Rattle.pcapfile_cut.specs.Openings.{header_of}
use Rattle.pcapfile_selected.specs.declared.spans.Spans.{Spans}
use Rattle.pcapfile_selected.specs.PacketTimes.{IsNextTime, unread}
use Rattle.pcapfile_selected.specs.Spans.{IsTaken, spans_after}

-- The spans of a cut, the bytes that follow, what was written, and what is counted.
pub record PacketRun : Type 0 where
  pub spans : Spans
  pub input : Option (List ℕ)
  pub out : Option (List ℕ)
  pub outcome : Outcome

abbrev pub packet_run : Spans → Option (List ℕ) → Option (List ℕ) → Outcome → PacketRun
packet_run spans input out outcome = record { spans = spans; input = input; out = out; outcome = outcome }

-- No packet is wanted.
abbrev pub no_packet : Wanted
no_packet = wants.Numbers 1 0

-- The next packet alone is wanted.
abbrev pub next_packet : Wanted
next_packet = wants.Numbers 1 1

-- The counts of a cut after another one.
abbrev pub joined : Outcome → Outcome → Outcome
joined first next = record next { packets = counted (next.packets + first.packets); bytes = counted (next.bytes + first.bytes) }

-- The next packet, which the part's span takes by the time in its header, was read and written as it is.
pub record CutsTaken (header : PcapHeader) (old new : PacketRun) : Type 0 where
  pub time : Option Timestamp
  pub next : IsNextTime header old.input time
  pub taken : IsTaken old.spans time
  pub spans : new.spans ≡ spans_after old.spans time
  pub input : Option (List ℕ)
  pub kept : Keeps old.input input
  pub outcome : Outcome
  pub cuts : CutsBehind header next_packet input new.input old.out new.out outcome
  pub counts : new.outcome ≡ joined old.outcome outcome

-- Nothing more was read or written.
pub record StaysThere (old new : PacketRun) : Type 0 where
  pub spans : new.spans ≡ old.spans
  pub input : Keeps old.input new.input
  pub out : Keeps old.out new.out

-- The next packet begins the next part: the part's span does not take it.
pub record HasNextPart (header : PcapHeader) (old : PacketRun) : Type 0 where
  pub time : Option Timestamp
  pub next : IsNextTime header old.input time
  pub later : IsTaken old.spans time → ⊥

-- Reading the header of the next packet failed.
abbrev pub FailsAhead : Outcome → Outcome → Type 0
FailsAhead old new = (error : Error) × (new ≡ joined old (unread error))

-- The part ends before the next packet: there is none, it begins the next part, or reading its header failed.
abbrev pub EndsTaken : PcapHeader → PacketRun → PacketRun → Type 0
EndsTaken header old new =
    StaysThere old new
    × (((new.outcome ≡ old.outcome) × (IsAtEnd old.input ⊎ HasNextPart header old)) ⊎ FailsAhead old.outcome new.outcome)

-- One packet was cut, or the part ended.
abbrev pub StepsTaken : PcapHeader → PacketRun → PacketRun → Bool → Type 0
StepsTaken header old new true = CutsTaken header old new
StepsTaken header old new false = EndsTaken header old new

-- So many packets were cut, one after another.
abbrev pub CutsAll : PcapHeader → PacketRun → ℕ → PacketRun → Type 0
CutsAll header old zero new = new ≡ old
CutsAll header old (suc n) new = (mid : PacketRun) × CutsAll header old n mid × CutsTaken header mid new

-- The part has ended after so many packets: with an error, before the next packet, or after 2^64 - 1 packets.
abbrev pub EndsPackets : PcapHeader → PacketRun → PacketRun → ℕ → Type 0
EndsPackets header old new packets =
    EndsTaken header old new ⊎ ((new ≡ old) × (IsTrue (is_some old.outcome.fault) ⊎ (packets ≡ 2 ^ 64 - 1)))

-- Packets were cut until the part ended.
pub record CutsPackets (header : PcapHeader) (old new : PacketRun) : Type 0 where
  pub packets : ℕ
  pub mid : PacketRun
  pub cuts : CutsAll header old packets mid
  pub ends : EndsPackets header mid new packets

-- A part with a span of time was written: its opening, and then the packets that its span takes.
pub record WritesPacketSpan (opening : Opening) (old new : PacketRun) : Type 0 where
  pub behind : PacketRun
  pub opens : CutsPart opening no_packet old.input behind.input old.out behind.out behind.outcome
  pub spans : behind.spans ≡ old.spans
  pub cuts : CutsPackets (header_of opening) behind new
