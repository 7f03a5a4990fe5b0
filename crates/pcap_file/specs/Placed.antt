-- The packet of a classic capture that a PcapNg block becomes, and the reasons why a packet has no place there.
use Rattle.std.specs.Prelude.{◌≡◌, ◌≢◌, ◌<◌, ◌+◌, ◌/◌, ◌%◌, ◌^◌, ℕ, List, [], ◌∷◌, length, Bool, true, false, Option, None, Some, Result, Ok, Err, pos, codes}
use Rattle.std.specs.List.{slice_get, flat_map}
use Rattle.pcap_core.specs.declared.link.DataLink.{DataLink}
use Rattle.pcap_core.specs.declared.rules.Rule.TheVariants.{OriginalTooLong, IncludedPastOriginal}
use Rattle.pcap_core.specs.Answer.{whole}
use Rattle.pcap_core.specs.Faults.{rule_message}
use Rattle.pcap_times.specs.declared.clock.Timestamp.{Timestamp}
use Rattle.pcap_classic.specs.PacketText.{Captured, packet_limit}
use Rattle.pcap_classic.specs.Written.{IsWhole}
use Rattle.pcap_blocks.specs.declared.block_type.BlockType.{BlockType}
use Rattle.pcap_blocks.specs.declared.block_type.BlockType.TheVariants as types
use Rattle.pcap_blocks.specs.InterfaceDescription.{Interface}
use Rattle.pcap_blocks.specs.InterfaceTimes.{IsTimeAt}
use Rattle.pcap_blocks.specs.ParsedBlock.{Body, EnhancedBody, OldPacketBody}
use Rattle.pcap_file.specs.declared.run.unplaced.PlacedPacket.{PlacedPacket}
use Rattle.pcap_file.specs.declared.run.unplaced.Unplaced.{Unplaced}
use Rattle.pcap_file.specs.declared.run.unplaced.Unplaced.TheVariants as reasons
use Rattle.pcap_ng.specs.Blocks.{Item}
use Rattle.pcap_ng.specs.Bodies.{SaysOfBody}
use Rattle.pcap_ng.specs.Frames.{Framed}
use Rattle.pcap_ng.specs.State.{interfaces_at}

-- The message of a reason why a packet has no place.
abbrev pub unplaced_message : Unplaced → List ℕ
unplaced_message reasons.NoTime = codes "SimplePacketBlock: no time"
unplaced_message reasons.InterfaceMissing = codes "Block: interface_id is not described"
unplaced_message reasons.OtherLink = codes "Block: interface of another linktype"
unplaced_message reasons.SecondsOutside = codes "Block: seconds of no 32 bits"
unplaced_message reasons.OriginalTooLong = rule_message OriginalTooLong
unplaced_message reasons.CapturedPastOriginal = rule_message IncludedPastOriginal

-- The time of a packet as a timestamp: its seconds and its nanoseconds, unchanged.
abbrev pub time_in : Captured → Timestamp
time_in packet = record { seconds = pos packet.header.ts_sec; nanoseconds = packet.header.ts_nsec }

-- The packet with the whole seconds among its nanoseconds moved to its seconds.
abbrev pub carried : Captured → Captured
carried packet = record {
  header = record {
    ts_sec = packet.header.ts_sec + packet.header.ts_nsec / 10 ^ 9;
    ts_nsec = packet.header.ts_nsec % 10 ^ 9;
    incl_len = packet.header.incl_len;
    orig_len = packet.header.orig_len;
  };
  bytes = packet.bytes;
}

-- Places: this packet of a classic capture ('Packet Record' of pcap) has this link type, and the bytes, the original length and the
-- time of a block of this interface ('Enhanced Packet Block' of pcapng). The block's time is in units of the interface's clock.
pub record Places (interface : Option Interface) (link : DataLink) (units original : ℕ) (bytes : List ℕ) (packet : Captured) : Type 0 where
  pub by : Interface
  pub described : interface ≡ Some by
  pub same_link : by.linktype ≡ link
  pub time : IsTimeAt by units (time_in packet)
  pub original_is : packet.header.orig_len ≡ original
  pub bytes_are : packet.bytes ≡ bytes
  pub whole : IsWhole packet

-- The interface's clock shows a time whose seconds do not fit into 32 bits.
abbrev pub HasSecondsOutside : Interface → ℕ → Type 0
HasSecondsOutside interface units = (time : Timestamp) × IsTimeAt interface units time × ((s : ℕ) → s < 2 ^ 32 → time.seconds ≢ pos s)

-- HasNoPlace gives the meaning of each reason why such a packet has no place in the classic capture.
abbrev pub HasNoPlace : Option Interface → DataLink → ℕ → ℕ → List ℕ → Unplaced → Type 0
HasNoPlace interface link units original bytes reasons.NoTime = ⊥
HasNoPlace interface link units original bytes reasons.InterfaceMissing = interface ≡ None
HasNoPlace interface link units original bytes reasons.OtherLink = (by : Interface) × (interface ≡ Some by) × (by.linktype ≢ link)
HasNoPlace interface link units original bytes reasons.SecondsOutside = (by : Interface) × (interface ≡ Some by) × HasSecondsOutside by units
HasNoPlace interface link units original bytes reasons.OriginalTooLong = packet_limit < original
HasNoPlace interface link units original bytes reasons.CapturedPastOriginal = original < length bytes

-- The specification's view of a packet that the code returns.
abbrev pub captured_of : PlacedPacket → Captured
captured_of p = record { header = p.header; bytes = p.bytes.now }

-- TellsPlaced: the result is the packet, or a true reason why it has no place.
abbrev pub TellsPlaced : Option Interface → DataLink → ℕ → ℕ → List ℕ → Result PlacedPacket Unplaced → Type 0
TellsPlaced interface link units original bytes (Ok packet) = Places interface link units original bytes (captured_of packet)
TellsPlaced interface link units original bytes (Err reason) = HasNoPlace interface link units original bytes reason

-- The body holds this packet, if these interfaces are described.
abbrev pub PlacesBody : List Interface → DataLink → Body → Captured → Type 0
PlacesBody interfaces link (EnhancedBody b) packet =
    Places (slice_get interfaces b.interface_id) link b.packet.timestamp b.packet.original_len b.packet.bytes packet
PlacesBody interfaces link (OldPacketBody b) packet =
    Places (slice_get interfaces b.interface_id) link b.packet.timestamp b.packet.original_len b.packet.bytes packet
PlacesBody interfaces link _ packet = ⊥

-- HasNoPlaceBody: this is a reason why the packet of a body has no place; a packet without a time has none.
abbrev pub HasNoPlaceBody : List Interface → DataLink → Body → Unplaced → Type 0
HasNoPlaceBody interfaces link (EnhancedBody b) reason =
    HasNoPlace (slice_get interfaces b.interface_id) link b.packet.timestamp b.packet.original_len b.packet.bytes reason
HasNoPlaceBody interfaces link (OldPacketBody b) reason =
    HasNoPlace (slice_get interfaces b.interface_id) link b.packet.timestamp b.packet.original_len b.packet.bytes reason
HasNoPlaceBody interfaces link _ reason = reason ≡ reasons.NoTime

-- TellsPlacedBody: the result is the packet of a body, or a true reason why it has no place.
abbrev pub TellsPlacedBody : List Interface → DataLink → Body → Result PlacedPacket Unplaced → Type 0
TellsPlacedBody interfaces link body (Ok packet) = PlacesBody interfaces link body (captured_of packet)
TellsPlacedBody interfaces link body (Err reason) = HasNoPlaceBody interfaces link body reason

-- Blocks of this type hold a packet.
abbrev pub is_packet : BlockType → Bool
is_packet types.EnhancedPacket = true
is_packet types.Packet = true
is_packet types.SimplePacket = true
is_packet _ = false

-- A turn is what a block becomes: a packet with a place, a packet without a place, or no packet.
pub data Turn : Type 0 where
  placed : Captured → Turn
  unplaced : Unplaced → Turn
  no_packet : Turn

-- BecomesIn: a block becomes this turn in a classic capture of this link type, if these interfaces are described.
abbrev pub BecomesIn : List Interface → DataLink → Framed → Turn → Type 0
BecomesIn interfaces link b (placed packet) =
    (is_packet b.type_ ≡ true) × (body : Body) × (rest : List ℕ) × SaysOfBody b (whole body rest) × PlacesBody interfaces link body packet
BecomesIn interfaces link b (unplaced reason) =
    (is_packet b.type_ ≡ true) × (body : Body) × (rest : List ℕ) × SaysOfBody b (whole body rest) × HasNoPlaceBody interfaces link body reason
BecomesIn interfaces link b no_packet = is_packet b.type_ ≡ false

-- Becomes: a block of a capture becomes this turn, with the interfaces that are in force behind the block.
abbrev pub Becomes : DataLink → Item → Turn → Type 0
Becomes link item = BecomesIn (interfaces_at item.after) link item.block

-- The packet of a turn, if it has one.
abbrev pub packet_of_turn : Turn → List Captured
packet_of_turn (placed packet) = packet ∷ []
packet_of_turn (unplaced reason) = []
packet_of_turn no_packet = []

-- The reason of a turn, if it has one.
abbrev pub reason_of_turn : Turn → List Unplaced
reason_of_turn (placed packet) = []
reason_of_turn (unplaced reason) = reason ∷ []
reason_of_turn no_packet = []

-- The packets of turns, in order.
abbrev pub packets_of : List Turn → List Captured
packets_of = flat_map packet_of_turn

-- The reasons of turns, in order.
abbrev pub reasons_of : List Turn → List Unplaced
reasons_of = flat_map reason_of_turn
