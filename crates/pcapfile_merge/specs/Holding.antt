-- The packet that a reader of either format holds, and the packets that it takes.
use Rattle.std.specs.Prelude.{◌≡◌, ◌≤◌, ◌+◌, ℕ, List, [], ◌∷◌, length, take, drop, Bool, true, false, Option, None, Some}
use Rattle.pcap_core.specs.declared.errors.PcapError.{PcapError}
use Rattle.pcapfile_run.specs.Passing.{counted}
use Rattle.pcapfile_merge.specs.declared.buffered.BufferedPackets.{BufferedPackets}
use Rattle.pcapfile_merge.specs.declared.buffered_blocks.BufferedBlocks.{BufferedBlocks}
use Rattle.pcapfile_merge.specs.declared.packet.Pending.{Pending}
use Rattle.pcapfile_merge.specs.declared.reader.Reader.{Reader}
use Rattle.pcapfile_merge.specs.declared.reader.Reader.TheVariants.{Packets, Blocks}
use Rattle.pcapfile_merge.specs.declared.reader.Taken.{Taken}
use Rattle.pcapfile_merge.specs.Buffered as packets
use Rattle.pcapfile_merge.specs.BufferedBlocks as blocks
use Rattle.pcapfile_merge.specs.BufferedBlocks.{progress_of}
use Rattle.pcapfile_merge.specs.Keeping.{is_there}
use Rattle.pcapfile_merge.specs.Packets.{Packet}
use Rattle.pcapfile_merge.specs.Taking.{TakesPacket, packet_in}
use Rattle.pcapfile_merge.specs.TakingBlocks.{TakesStored}

-- The bytes of the packet with these facts.
abbrev pub bytes_in : {R : Type 0} → Reader R → Pending → List ℕ
bytes_in (Packets reader) pending = packets.data_of reader
bytes_in (Blocks reader) pending = take pending.len (drop pending.start (blocks.body_of reader))

-- The packet that a reader holds, if there is one.
abbrev pub held_by : {R : Type 0} → Reader R → Option Pending → List Packet
held_by reader None = []
held_by reader (Some pending) = packet_in (bytes_in reader pending) pending ∷ []

-- The bytes of the packet that a reader holds.
abbrev pub bytes_held : {R : Type 0} → Reader R → Option Pending → List ℕ
bytes_held reader None = []
bytes_held reader (Some pending) = bytes_in reader pending

-- The bytes that a reader holds fit into a block.
abbrev pub HoldsFew : {R : Type 0} → Reader R → Option Pending → Type 0
HoldsFew reader next = length (bytes_held reader next) ≤ 4294967260

abbrev pub HoldsFewBlocks : {R : Type 0} → BufferedBlocks R → Option Pending → Type 0
HoldsFewBlocks reader next = HoldsFew (Blocks reader) next

-- Whether a reader has refused something.
abbrev pub has_refused : {R : Type 0} → Reader R → Bool
has_refused (Packets reader) = packets.is_done reader
has_refused (Blocks reader) = blocks.is_done reader

-- Whether a reader that holds a packet has refused something.
abbrev pub has_refused_if : {R : Type 0} → Reader R → Option Pending → Bool
has_refused_if reader None = false
has_refused_if reader (Some pending) = has_refused reader

-- A reader has refused nothing.
abbrev pub IsReady : {R : Type 0} → Reader R → Type 0
IsReady reader = has_refused reader ≡ false

-- If a reader holds a packet, it has refused nothing.
abbrev pub IsReadyIf : {R : Type 0} → Reader R → Option Pending → Type 0
IsReadyIf reader next = has_refused_if reader next ≡ false

abbrev pub IsReadyBlocks : {R : Type 0} → BufferedBlocks R → Option Pending → Type 0
IsReadyBlocks reader next = IsReadyIf (Blocks reader) next

-- How many options are left out, after this many others, with the packet that was taken next.
abbrev pub left_out_next : Option Pending → ℕ → ℕ
left_out_next None others = others
left_out_next (Some pending) others = counted (others + pending.left_out)

-- A packet is held.
abbrev pub Holds : Option Pending → Type 0
Holds next = (pending : Pending) × (next ≡ Some pending)

-- A reader of blocks took the next packet, or took none for the stated reason.
abbrev pub TakesBlocks : {R : Type 0} → (R → Option (List ℕ)) → List ℕ → BufferedBlocks R → BufferedBlocks R → Taken → Type 0
TakesBlocks remaining numbers old new taken = TakesStored numbers (progress_of remaining old) (progress_of remaining new) (bytes_in (Blocks new)) taken.next taken.fault

-- A reader took the next packet, or took none for the stated reason. In the output, the interface of a classic capture has the number
-- `base`, and those of a PcapNg capture have `numbers`.
abbrev pub TakesNext : {R : Type 0} → (R → Option (List ℕ)) → ℕ → List ℕ → Reader R → Reader R → Taken → Type 0
TakesNext remaining base numbers (Packets old) (Packets new) taken = TakesPacket remaining base old new taken
TakesNext remaining base numbers (Blocks old) (Blocks new) taken = TakesBlocks remaining numbers old new taken
TakesNext remaining base numbers _ _ taken = ⊥

-- A packet taken without an error.
abbrev pub alone : Pending → Taken
alone pending = record { next = Some pending; fault = None }

-- The reader of a classic capture took the packet in its buffer, or only removed the lent packet.
abbrev pub PacketThere : {R : Type 0} → (R → Option (List ℕ)) → ℕ → BufferedPackets R → BufferedPackets R → Option Pending → Type 0
PacketThere remaining number old new None = (packets.header_of new ≡ packets.header_of old) × packets.StaysAt remaining old new
PacketThere remaining number old new (Some pending) = TakesPacket remaining number old new (alone pending)

-- The reader of a PcapNg capture took the packet in its buffer, or only removed the lent block.
abbrev pub BlockThere : {R : Type 0} → (R → Option (List ℕ)) → List ℕ → BufferedBlocks R → BufferedBlocks R → Option Pending → Type 0
BlockThere remaining numbers old new None = blocks.StaysAt remaining old new
BlockThere remaining numbers old new (Some pending) = TakesBlocks remaining numbers old new (alone pending)

-- The reader of either format took the packet in its buffer, or only removed what it had lent.
abbrev pub TakesThere : {R : Type 0} → (R → Option (List ℕ)) → ℕ → List ℕ → Reader R → Reader R → Option Pending → Type 0
TakesThere remaining base numbers (Packets old) (Packets new) next = PacketThere remaining base old new next
TakesThere remaining base numbers (Blocks old) (Blocks new) next = BlockThere remaining numbers old new next
TakesThere remaining base numbers _ _ next = ⊥

abbrev pub HoldsFewPackets : {R : Type 0} → BufferedPackets R → Option Pending → Type 0
HoldsFewPackets reader next = HoldsFew (Packets reader) next

-- The error beside a packet that was taken; without a packet, None.
abbrev pub fault_beside : Option Pending → Option PcapError → Option PcapError
fault_beside None fault = None
fault_beside (Some pending) fault = fault

-- If a packet was taken, it came without an error.
abbrev pub IsWhole : Taken → Type 0
IsWhole taken = fault_beside taken.next taken.fault ≡ None

-- An interface is held.
abbrev pub holds_interface : Option Pending → Bool
holds_interface None = false
holds_interface (Some pending) = pending.is_interface

-- Whether there is no value.
abbrev pub lacks_time : Bool → Bool
lacks_time true = false
lacks_time false = true

-- Something without a time is held.
abbrev pub holds_untimed : Option Pending → Bool
holds_untimed None = false
holds_untimed (Some pending) = lacks_time (is_there pending.time)
