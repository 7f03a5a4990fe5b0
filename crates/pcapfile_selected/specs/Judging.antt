-- The packets in blocks that pass the tests of a selection.
use Rattle.std.specs.Prelude.{◌≡◌, ◌==◌, ◌&&◌, ◌⊎◌, ⊤, ℕ, List, Bool, true, false, IsTrue, Option, None, Some}
use Rattle.pcap_core.specs.Answer.{whole, faulty}
use Rattle.pcap_core.specs.Faults.{Fault}
use Rattle.pcap_times.specs.declared.clock.Timestamp.{Timestamp}
use Rattle.pcap_blocks.specs.InterfaceDescription.{Interface}
use Rattle.pcap_blocks.specs.declared.parsed_block.ParsedBlock.{ParsedBlock}
use Rattle.pcap_blocks.specs.ParsedBlock.{Body, body_of}
use Rattle.pcap_ng.specs.Bodies.{SaysOfBody}
use Rattle.pcap_ng.specs.Frames.{Framed}
use Rattle.pcapfile_run.specs.BlockPackets.{InBlock, IsTimeIn, packet_in}
use Rattle.pcapfile_info.specs.Tallies.{IsBefore}
use Rattle.pcapfile_cut.specs.Selections.{accepts, is_in}
use Rattle.pcapfile_selected.specs.declared.blocks.judging.BlockTests.{BlockTests}
use Rattle.pcapfile_selected.specs.declared.blocks.judging.Times.{Times}
use Rattle.pcapfile_selected.specs.declared.blocks.judging.Verdict.{Verdict}
use Rattle.pcapfile_selected.specs.declared.blocks.judging.Verdict.TheVariants.{Selected, Rejected, Malformed, WithoutTime}

-- The time is not before this one, if there is one.
abbrev pub IsFrom : Option Timestamp → Timestamp → Type 0
IsFrom None time = ⊤
IsFrom (Some from) time = IsBefore time from → ⊥

-- The time is before this one, if there is one.
abbrev pub IsUntil : Option Timestamp → Timestamp → Type 0
IsUntil None time = ⊤
IsUntil (Some until) time = IsBefore time until

-- The time is one of these.
abbrev pub IsWithin : Times → Timestamp → Type 0
IsWithin times time = IsFrom times.from time × IsUntil times.until time

-- The tests take packets of the interface with this number.
abbrev pub takes_interface : BlockTests → ℕ → Bool
takes_interface tests number = elim tests.interface [ None ↦ true | Some wanted ↦ wanted == number ]

-- The packet passes the tests of its interface, its length on the wire and its bytes.
abbrev pub passes : BlockTests → InBlock → Bool
passes tests packet =
    takes_interface tests packet.interface
    && is_in tests.selection.lengths packet.original_len
    && accepts tests.selection packet.bytes packet.original_len

-- The packet passes the test of its time, if there is one.
abbrev pub IsInTime : Option Times → List Interface → InBlock → Type 0
IsInTime None interfaces packet = ⊤
IsInTime (Some times) interfaces packet = (time : Timestamp) × IsTimeIn interfaces packet.interface packet.units (Some time) × IsWithin times time

-- There is a test of time, and the packet has a time that fails it.
abbrev pub IsOutOfTime : Option Times → List Interface → InBlock → Type 0
IsOutOfTime None interfaces packet = ⊥
IsOutOfTime (Some times) interfaces packet = (time : Timestamp) × IsTimeIn interfaces packet.interface packet.units (Some time) × (IsWithin times time → ⊥)

-- There is a test of time, and the packet has no time.
abbrev pub IsUntimed : Option Times → List Interface → InBlock → Type 0
IsUntimed None interfaces packet = ⊥
IsUntimed (Some times) interfaces packet = IsTimeIn interfaces packet.interface packet.units None

-- The verdict on a packet of these interfaces' section: it passes all tests, it fails one, or it has no time for the test of time.
abbrev pub JudgesPacket : BlockTests → List Interface → InBlock → Verdict → Type 0
JudgesPacket tests interfaces packet Selected = IsTrue (passes tests packet) × IsInTime tests.times interfaces packet
JudgesPacket tests interfaces packet Rejected = (passes tests packet ≡ false) ⊎ IsOutOfTime tests.times interfaces packet
JudgesPacket tests interfaces packet WithoutTime = IsTrue (passes tests packet) × IsUntimed tests.times interfaces packet
JudgesPacket tests interfaces packet Malformed = ⊥

-- The verdict on the packet that a body holds, if it holds one.
abbrev pub JudgesHeld : BlockTests → List Interface → Option InBlock → Verdict → Type 0
JudgesHeld tests interfaces None verdict = verdict ≡ Malformed
JudgesHeld tests interfaces (Some packet) verdict = JudgesPacket tests interfaces packet verdict

-- The body of a block is read as this one, or it is malformed.
abbrev pub IsRead : Framed → Option ParsedBlock → Type 0
IsRead block (Some parsed) = (rest : List ℕ) × SaysOfBody block (whole (body_of parsed) rest)
IsRead block None = (fault : Fault) × SaysOfBody block (faulty fault)

-- The packet in a block of these interfaces' section. There is none if the body is malformed.
abbrev pub IsPacketOf : List Interface → Framed → Option InBlock → Type 0
IsPacketOf interfaces block packet =
    ((body : Body) × (rest : List ℕ) × SaysOfBody block (whole body rest) × (packet ≡ packet_in interfaces body))
    ⊎ ((fault : Fault) × SaysOfBody block (faulty fault) × (packet ≡ None))

-- The verdict on the packet in a block.
abbrev pub Judges : BlockTests → List Interface → Framed → Verdict → Type 0
Judges tests interfaces block verdict = (packet : Option InBlock) × IsPacketOf interfaces block packet × JudgesHeld tests interfaces packet verdict

-- The time of the packet that a body holds. There is none if the body holds no packet, or one without a time.
abbrev pub IsHeldTime : List Interface → Option InBlock → Option Timestamp → Type 0
IsHeldTime interfaces None time = time ≡ None
IsHeldTime interfaces (Some packet) time = IsTimeIn interfaces packet.interface packet.units time

-- The time of the packet in a block. There is none if the body is malformed, or holds no packet with a time.
abbrev pub IsBlockTime : List Interface → Framed → Option Timestamp → Type 0
IsBlockTime interfaces block time = (packet : Option InBlock) × IsPacketOf interfaces block packet × IsHeldTime interfaces packet time
