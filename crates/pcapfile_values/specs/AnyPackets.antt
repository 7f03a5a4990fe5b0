-- The struct that shows C a packet of a capture of either format.
use Rattle.std.specs.Prelude.{◌≡◌, ◌≢◌, ◌⊎◌, ◌==◌, if◌then◌else◌, ℕ, pos, List, take, Option, Some, None, FitsSigned}
use Rattle.std.specs.Int.{w64}
use Rattle.pcap_classic.specs.PacketText.{Captured}
use Rattle.pcap_times.specs.declared.clock.Clock.{Clock}
use Rattle.pcap_times.specs.declared.clock.Timestamp.{Timestamp}
use Rattle.pcap_times.specs.Times.{IsTimeOf}
use Rattle.pcap_blocks.specs.StoredBytes.{stored_len}
use Rattle.pcapfile_values.specs.declared.any_packets.PcapfileAnyPacket.{PcapfileAnyPacket}
use Rattle.pcapfile_values.specs.declared.bodies.PcapfileInterface.{PcapfileInterface}
use Rattle.pcapfile_values.specs.declared.bodies.PcapfileNgPacket.{PcapfileNgPacket}
use Rattle.pcapfile_values.specs.declared.bodies.PcapfileTime.{PcapfileTime}
use Rattle.pcapfile_values.specs.Bodies.{clock_shown}

-- The stored bytes of a packet under this snapshot length. In a simple packet, padding may follow them.
abbrev pub stored_bytes : PcapfileNgPacket → ℕ → List ℕ
stored_bytes packet snaplen = if packet.type_ == 3 then take (stored_len packet.orig_len snaplen) packet.bytes.now else packet.bytes.now

-- A struct shows no time: its flag, seconds and nanoseconds are 0.
abbrev pub TellsNoTime : ℕ → PcapfileTime → Type 0
TellsNoTime has_time time = (has_time ≡ 0) × (time.seconds ≡ pos 0) × (time.nanoseconds ≡ 0)

-- The flag is 1 and the struct shows the packet's time by this clock; or it shows no time, since the packet is simple or the seconds
-- don't fit 64 bits.
abbrev pub TellsPacketTime : Clock → PcapfileNgPacket → ℕ → PcapfileTime → Type 0
TellsPacketTime clock packet has_time shown =
    ((packet.type_ ≡ 3) × TellsNoTime has_time shown)
    ⊎ ((packet.type_ ≢ 3) × (time : Timestamp) × IsTimeOf clock packet.timestamp time
    × (((has_time ≡ 1) × (shown.seconds ≡ time.seconds) × (shown.nanoseconds ≡ time.nanoseconds))
    ⊎ (TellsNoTime has_time shown × (FitsSigned w64 time.seconds → ⊥))))

-- The struct shows a packet without an interface.
pub record ShowsAlone (packet : PcapfileNgPacket) (shown : PcapfileAnyPacket) : Type 0 where
  pub flag : shown.has_interface ≡ 0
  pub link : shown.link ≡ 0
  pub interface_is : shown.interface_id ≡ packet.interface_id
  pub original_is : shown.orig_len ≡ packet.orig_len
  pub bytes_are : shown.bytes.now ≡ stored_bytes packet 0
  pub time_is : TellsNoTime shown.has_time shown.time

-- The struct shows a packet of this interface, with its link type and the time by its clock.
pub record ShowsOfInterface (interface : PcapfileInterface) (packet : PcapfileNgPacket) (shown : PcapfileAnyPacket) : Type 0 where
  pub flag : shown.has_interface ≡ 1
  pub link : shown.link ≡ interface.link
  pub interface_is : shown.interface_id ≡ packet.interface_id
  pub original_is : shown.orig_len ≡ packet.orig_len
  pub bytes_are : shown.bytes.now ≡ stored_bytes packet interface.snaplen
  pub time_is : TellsPacketTime (clock_shown interface) packet shown.has_time shown.time

-- The struct shows a packet of this interface, or of none.
abbrev pub ShowsAny : Option PcapfileInterface → PcapfileNgPacket → PcapfileAnyPacket → Type 0
ShowsAny (Some interface) packet shown = ShowsOfInterface interface packet shown
ShowsAny None packet shown = ShowsAlone packet shown

-- The struct shows a packet of a classic capture of this link type: its interface number is 0, and it has a time.
pub record ShowsCaptured (link : ℕ) (packet : Captured) (shown : PcapfileAnyPacket) : Type 0 where
  pub link_is : shown.link ≡ link
  pub interface_is : shown.interface_id ≡ 0
  pub has_interface : shown.has_interface ≡ 1
  pub has_time : shown.has_time ≡ 1
  pub original_is : shown.orig_len ≡ packet.header.orig_len
  pub seconds_are : shown.time.seconds ≡ pos packet.header.ts_sec
  pub nanoseconds_are : shown.time.nanoseconds ≡ packet.header.ts_nsec
  pub bytes_are : shown.bytes.now ≡ packet.bytes
