-- This file defines the packets in blocks and their times ('Enhanced Packet Block', 'Packet Block', 'Simple Packet Block').
use Rattle.std.specs.Prelude.{◌≡◌, ◌<◌, ◌<ℤ◌, ◌⊎◌, ⊤, ℕ, List, take, Option, None, Some}
use Rattle.std.specs.List.{slice_get}
use Rattle.pcap_core.specs.Answer.{whole}
use Rattle.pcap_times.specs.declared.clock.Timestamp.{Timestamp}
use Rattle.pcap_blocks.specs.InterfaceDescription.{Interface}
use Rattle.pcap_blocks.specs.InterfaceTimes.{IsTimeAt}
use Rattle.pcap_blocks.specs.ParsedBlock.{Body, EnhancedBody, OldPacketBody, SimpleBody}
use Rattle.pcap_blocks.specs.StoredBytes.{stored_len}
use Rattle.pcap_ng.specs.Bodies.{SaysOfBody}
use Rattle.pcap_ng.specs.Frames.{Framed}
use Rattle.pcapfile_run.specs.declared.block_packet.BlockPacket.{BlockPacket}

-- A packet in a block has the number of its interface in its section, a timestamp in units of that interface's clock if it has one,
-- its length on the wire, and its stored bytes.
pub record InBlock : Type 0 where
  pub interface : ℕ
  pub units : Option ℕ
  pub original_len : ℕ
  pub bytes : List ℕ

-- The snapshot length of an interface; 0, which is no limit, if there is no interface.
abbrev pub snaplen_of : Option Interface → ℕ
snaplen_of (Some interface) = interface.snaplen
snaplen_of None = 0

-- The packet in a body, given the interfaces of its section. A simple packet has no timestamp, and belongs to the first interface.
abbrev pub packet_in : List Interface → Body → Option InBlock
packet_in interfaces (EnhancedBody b) =
    Some (record { interface = b.interface_id; units = Some b.packet.timestamp; original_len = b.packet.original_len; bytes = b.packet.bytes })
packet_in interfaces (OldPacketBody b) =
    Some (record { interface = b.interface_id; units = Some b.packet.timestamp; original_len = b.packet.original_len; bytes = b.packet.bytes })
packet_in interfaces (SimpleBody b) =
    Some (record { interface = 0; units = None; original_len = b.original_len; bytes = take (stored_len b.original_len (snaplen_of (slice_get interfaces 0))) b.bytes })
packet_in interfaces _ = None

-- HoldsPacket interfaces block packet: the block holds this packet.
pub record HoldsPacket (interfaces : List Interface) (block : Framed) (packet : InBlock) : Type 0 where
  pub body : Body
  pub rest : List ℕ
  pub says : SaysOfBody block (whole body rest)
  pub packet_is : packet_in interfaces body ≡ Some packet

-- The packet that a value of the code stands for.
abbrev pub in_block : BlockPacket → InBlock
in_block packet = record { interface = packet.interface; units = packet.units; original_len = packet.original_len; bytes = packet.bytes.now }

-- IsClockTime interface units time: `time` is the time at this count of the interface's clock, or none if there is no interface.
abbrev pub IsClockTime : Option Interface → ℕ → Option Timestamp → Type 0
IsClockTime (Some interface) units (Some time) = IsTimeAt interface units time
IsClockTime None units None = ⊤
IsClockTime _ units _ = ⊥

-- IsTimeIn: the time of a packet of the interface with this number, or none if the packet has none.
abbrev pub IsTimeIn : List Interface → ℕ → Option ℕ → Option Timestamp → Type 0
IsTimeIn interfaces number (Some units) time = IsClockTime (slice_get interfaces number) units time
IsTimeIn interfaces number None time = time ≡ None

-- One time is before another.
abbrev pub IsTimeBefore : Timestamp → Timestamp → Type 0
IsTimeBefore t u = (t.seconds <ℤ u.seconds) ⊎ ((t.seconds ≡ u.seconds) × (t.nanoseconds < u.nanoseconds))

-- A missing time is before each time.
abbrev pub IsBefore : Option Timestamp → Option Timestamp → Type 0
IsBefore None None = ⊥
IsBefore None (Some u) = ⊤
IsBefore (Some t) None = ⊥
IsBefore (Some t) (Some u) = IsTimeBefore t u
