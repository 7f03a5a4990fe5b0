-- The data of packets and blocks that the totals use.
use Rattle.std.specs.Prelude.{◌≡◌, ◌+◌, ◌-◌, ◌⊎◌, ◌&&◌, ℕ, List, length, Option, None, Some, nat_lt, nat_le, if◌then◌else◌}
use Rattle.std.specs.List.{slice_get}
use Rattle.pcap_core.specs.Answer.{whole, faulty}
use Rattle.pcap_core.specs.Faults.{Fault}
use Rattle.pcap_times.specs.declared.clock.Timestamp.{Timestamp}
use Rattle.pcap_classic.specs.declared.pcap.packet.PacketHeader.{PacketHeader}
use Rattle.pcap_classic.specs.PacketText.{Captured}
use Rattle.pcap_blocks.specs.declared.block_type.BlockType.{BlockType}
use Rattle.pcap_blocks.specs.declared.block_type.BlockType.TheVariants as types
use Rattle.pcap_blocks.specs.InterfaceDescription.{Interface}
use Rattle.pcap_blocks.specs.InterfaceTimes.{IsTimeAt}
use Rattle.pcap_blocks.specs.ParsedBlock.{Body}
use Rattle.pcap_ng.specs.Blocks.{Item}
use Rattle.pcap_ng.specs.Bodies.{SaysOfBody}
use Rattle.pcap_ng.specs.Frames.{Framed}
use Rattle.pcap_file.specs.Placed.{carried, time_in}
use Rattle.pcap_ng.specs.State.{interfaces_at}
use Rattle.pcapfile_run.specs.BlockPackets.{InBlock, packet_in}
use Rattle.pcapfile_info.specs.declared.others.Kind.TheVariants as kinds
use Rattle.pcapfile_info.specs.declared.seen.Seen.{Seen}
use Rattle.pcapfile_info.specs.declared.seen.Sight.{Sight}
use Rattle.pcapfile_info.specs.declared.seen.Sight.TheVariants as sights
use Rattle.pcapfile_info.specs.Others.{kind_of}

-- The packet of this header and this data.
abbrev pub captured_as : PacketHeader → List ℕ → Captured
captured_as header bytes = record { header = header; bytes = bytes }

-- The data of a packet of a classic capture, which comes from its one interface.
abbrev pub captured_seen : Captured → Seen
captured_seen packet = record {
  interface = Some 0;
  time = Some (time_in (carried packet));
  stored = length packet.bytes;
  original = packet.header.orig_len;
}

-- The sight of a packet of a classic capture.
abbrev pub IsPacketSight : ℕ → Captured → Sight → Type 0
IsPacketSight described packet sight = sight ≡ sights.Packet (captured_seen packet)

-- The index of an interface by its number among all described interfaces, of which the last `own` are those of its section.
abbrev pub place_of : ℕ → ℕ → ℕ → Option ℕ
place_of described own number = if nat_lt number own && nat_le own described then Some (described - own + number) else None

-- The timestamp is this many units of the interface's clock; without an interface there is none.
abbrev pub IsTimeSeen : Option Interface → ℕ → Option Timestamp → Type 0
IsTimeSeen (Some interface) units (Some time) = IsTimeAt interface units time
IsTimeSeen (Some interface) units None = ⊥
IsTimeSeen None units time = time ≡ None

-- The packet comes from this interface, and has this many stored bytes and this original length.
pub record Sees (interface : Option ℕ) (stored original : ℕ) (seen : Seen) : Type 0 where
  pub interface_is : seen.interface ≡ interface
  pub stored_is : seen.stored ≡ stored
  pub original_is : seen.original ≡ original

-- The time of a packet is that of its units on the clock of the interface of this number, if it has units.
abbrev pub IsUnitsSeen : List Interface → ℕ → Option ℕ → Option Timestamp → Type 0
IsUnitsSeen interfaces number (Some units) time = IsTimeSeen (slice_get interfaces number) units time
IsUnitsSeen interfaces number None time = time ≡ None

-- The sight of a packet in a block, or of a block without one; the last of the described interfaces are those of the section.
abbrev pub IsInBlockSight : ℕ → List Interface → Option InBlock → Sight → Type 0
IsInBlockSight described interfaces (Some packet) (sights.Packet seen) =
    Sees (place_of described (length interfaces) packet.interface) (length packet.bytes) packet.original_len seen
    × IsUnitsSeen interfaces packet.interface packet.units seen.time
IsInBlockSight described interfaces (Some packet) sight = ⊥
IsInBlockSight described interfaces None sight = sight ≡ sights.Other kinds.Unknown

-- The sight of a body.
abbrev pub IsBodySight : ℕ → List Interface → Body → Sight → Type 0
IsBodySight described interfaces body sight = IsInBlockSight described interfaces (packet_in interfaces body) sight

-- The sight of a block of a packet type: its packet, or that its body is malformed.
abbrev pub IsStoredSight : ℕ → List Interface → Framed → Sight → Type 0
IsStoredSight described interfaces block sight =
    ((body : Body) × (rest : List ℕ) × SaysOfBody block (whole body rest) × IsBodySight described interfaces body sight)
    ⊎ ((fault : Fault) × SaysOfBody block (faulty fault) × (sight ≡ sights.Refused))

-- The sight of a block of this type, after this many described interfaces.
abbrev pub IsSightOf : BlockType → ℕ → List Interface → Framed → Sight → Type 0
IsSightOf types.SectionHeader described interfaces block sight = sight ≡ sights.Section
IsSightOf types.InterfaceDescription described interfaces block sight = sight ≡ sights.Interface
IsSightOf types.EnhancedPacket described interfaces block sight = IsStoredSight described interfaces block sight
IsSightOf types.Packet described interfaces block sight = IsStoredSight described interfaces block sight
IsSightOf types.SimplePacket described interfaces block sight = IsStoredSight described interfaces block sight
IsSightOf types.NameResolution described interfaces block sight = sight ≡ sights.Other kinds.Names
IsSightOf types.InterfaceStatistics described interfaces block sight = sight ≡ sights.Other kinds.Statistics
IsSightOf types.SystemdJournalExport described interfaces block sight = sight ≡ sights.Other kinds.Journal
IsSightOf (types.Unknown number) described interfaces block sight = sight ≡ sights.Other (kind_of number)

-- The sight of a block, by its type.
abbrev pub IsFramedSight : ℕ → List Interface → Framed → Sight → Type 0
IsFramedSight described interfaces block sight = IsSightOf block.type_ described interfaces block sight

-- The sight of a block after this many described interfaces, under the state after it.
abbrev pub IsBlockSight : ℕ → Item → Sight → Type 0
IsBlockSight described item sight = IsFramedSight described (interfaces_at item.after) item.block sight
