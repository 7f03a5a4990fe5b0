-- The structs that show C interfaces, packets and times.
use Rattle.std.specs.Prelude.{◌≡◌, ◌==◌, if◌then◌else◌, ⊤, ℕ, List, All, Option, Some, None, Result, Ok, Err, FitsSigned}
use Rattle.std.specs.Int.{w64}
use Rattle.pcap_core.specs.declared.common.Endianness.{Endianness}
use Rattle.pcap_core.specs.declared.errors.PcapError.{PcapError}
use Rattle.pcap_core.specs.Answer.{Order, number_in, whole, lacks, faulty, Refuses}
use Rattle.pcap_core.specs.Link.{link_number}
use Rattle.pcap_times.specs.declared.clock.Clock.{Clock}
use Rattle.pcap_times.specs.declared.clock.Timestamp.{Timestamp}
use Rattle.pcap_times.specs.declared.unit.TimeUnit.{TimeUnit}
use Rattle.pcap_times.specs.declared.unit.TimeUnit.TheVariants.{Decimal, Binary}
use Rattle.pcap_times.specs.Times.{IsTimeOf}
use Rattle.pcap_blocks.specs.declared.block_type.BlockType.{BlockType}
use Rattle.pcap_blocks.specs.EnhancedPacket.{Enhanced, EnhancedMayGrow, EnhancedSays, EnhancedText}
use Rattle.pcap_blocks.specs.InterfaceDescription.{Interface}
use Rattle.pcap_blocks.specs.InterfaceTimes.{IsClockOf}
use Rattle.pcap_blocks.specs.ParsedBlock.{Body, InterfaceBody, EnhancedBody, SimpleBody, OldPacketBody, BodySays, BodyMayGrow}
use Rattle.pcapfile_values.specs.EnhancedOptions.{IsPassed}
use Rattle.pcapfile_values.specs.declared.bodies.PcapfileInterface.{PcapfileInterface}
use Rattle.pcapfile_values.specs.declared.bodies.PcapfileNgPacket.{PcapfileNgPacket}
use Rattle.pcapfile_values.specs.declared.bodies.PcapfileTime.{PcapfileTime}

-- The unit of this base and exponent: a power of 2 for base 2, and of 10 for any other base.
abbrev pub unit_shown : ℕ → ℕ → TimeUnit
unit_shown base exponent = if base == 2 then Binary exponent else Decimal exponent

-- The clock that a struct shows.
abbrev pub clock_shown : PcapfileInterface → Clock
clock_shown shown = record { unit = unit_shown shown.ts_base shown.ts_exponent; offset = shown.ts_offset }

-- The base of a unit: 2 if it counts by powers of 2, and otherwise 10.
abbrev pub base_of : TimeUnit → ℕ
base_of (Binary exponent) = 2
base_of (Decimal exponent) = 10

-- The struct has the base of the unit that it shows: 2 or 10.
abbrev pub HasBase : PcapfileInterface → Type 0
HasBase shown = shown.ts_base ≡ base_of (unit_shown shown.ts_base shown.ts_exponent)

-- The struct counts as an interface: it has the same link type, snapshot length and clock; any base but 2 counts as 10.
pub record IsTakenFor (interface : Interface) (shown : PcapfileInterface) : Type 0 where
  pub link : shown.link ≡ link_number interface.linktype
  pub snaplen : shown.snaplen ≡ interface.snaplen
  pub clock : IsClockOf interface (clock_shown shown)

-- The struct shows an interface: it counts as the interface, and its base is 2 if that counts by powers of 2, and otherwise 10.
pub record ShowsInterfaceOf (interface : Interface) (shown : PcapfileInterface) : Type 0 where
  pub taken : IsTakenFor interface shown
  pub base : HasBase shown

-- The body is an interface, and the struct shows it.
abbrev pub ShowsInterface : Body → PcapfileInterface → Type 0
ShowsInterface (InterfaceBody interface) shown = ShowsInterfaceOf interface shown
ShowsInterface _ shown = ⊥

-- The body is an interface.
abbrev pub IsInterface : Body → Type 0
IsInterface (InterfaceBody interface) = ⊤
IsInterface _ = ⊥

-- The struct shows a packet: the number of its block's type, its interface, its time in units of that, its original length and its bytes.
pub record ShowsPacketOf (type interface timestamp original_len : ℕ) (bytes : List ℕ) (shown : PcapfileNgPacket) : Type 0 where
  pub type_is : shown.type_ ≡ type
  pub interface_is : shown.interface_id ≡ interface
  pub timestamp_is : shown.timestamp ≡ timestamp
  pub original_is : shown.orig_len ≡ original_len
  pub bytes_are : shown.bytes.now ≡ bytes

-- The body is a packet, and the struct shows it. A simple packet belongs to the first interface and has no time.
abbrev pub ShowsPacket : Body → PcapfileNgPacket → Type 0
ShowsPacket (EnhancedBody b) shown = ShowsPacketOf 6 b.interface_id b.packet.timestamp b.packet.original_len b.packet.bytes shown
ShowsPacket (OldPacketBody b) shown = ShowsPacketOf 2 b.interface_id b.packet.timestamp b.packet.original_len b.packet.bytes shown
ShowsPacket (SimpleBody b) shown = ShowsPacketOf 3 0 0 b.original_len b.bytes shown
ShowsPacket _ shown = ⊥

-- The body is a packet.
abbrev pub IsPacket : Body → Type 0
IsPacket (EnhancedBody b) = ⊤
IsPacket (OldPacketBody b) = ⊤
IsPacket (SimpleBody b) = ⊤
IsPacket _ = ⊥

-- The result of a search in a body: the struct shows the value, or the body is no such value.
abbrev pub Found : {S : Type 0} → (Body → S → Type 0) → (Body → Type 0) → Body → Option S → Type 0
Found Shows IsSuch body (Some shown) = Shows body shown
Found Shows IsSuch body None = IsSuch body → ⊥

-- The result of reading the body of a block of this type for a value: the value or none, or the reason why the body is refused.
abbrev pub BodyTells : {S : Type 0} → (Body → S → Type 0) → (Body → Type 0) → Endianness → BlockType → List ℕ → Result (Option S) PcapError → Type 0
BodyTells Shows IsSuch e type body (Ok found) = (value : Body) × (rest : List ℕ) × Found Shows IsSuch value found × BodySays (number_in e) type body (whole value rest)
BodyTells Shows IsSuch e type body (Err error) =
    Refuses (BodyMayGrow (number_in e) type body) (λ n. BodySays (number_in e) type body (lacks n)) (λ fault. BodySays (number_in e) type body (faulty fault)) error

-- The result of reading the body of an enhanced packet: a struct that shows it, or the reason why the body is refused.
abbrev pub EnhancedTells : Order → List ℕ → Result PcapfileNgPacket PcapError → Type 0
EnhancedTells order body (Ok shown) = (packet : Enhanced) × (rest : List ℕ) × ShowsPacket (EnhancedBody packet) shown × EnhancedSays order body (whole packet rest)
EnhancedTells order body (Err error) =
    Refuses (EnhancedMayGrow order body) (λ n. EnhancedSays order body (lacks n)) (λ fault. EnhancedSays order body (faulty fault)) error

-- The body is this enhanced packet and then the rest, and the reader skips each of its options.
pub record PlainText (order : Order) (packet : Enhanced) (body rest : List ℕ) : Type 0 where
  pub text : EnhancedText order packet body rest
  pub passed : All (λ option. IsPassed option.code) packet.packet.options

-- The body is an enhanced packet whose options the reader skips, and the struct shows it.
abbrev pub PlainTells : Order → List ℕ → PcapfileNgPacket → Type 0
PlainTells order body shown = (packet : Enhanced) × (rest : List ℕ) × ShowsPacket (EnhancedBody packet) shown × PlainText order packet body rest

-- The body is refused as an enhanced packet, or it has an option that the reader doesn't skip.
abbrev pub NotPlain : Order → List ℕ → Type 0
NotPlain order body = (packet : Enhanced) (rest : List ℕ) → PlainText order packet body rest → ⊥

-- The struct shows the time of a clock after this many units; or there is no struct, since the seconds don't fit 64 bits.
abbrev pub ShowsTime : Clock → ℕ → Option PcapfileTime → Type 0
ShowsTime clock units (Some shown) = (time : Timestamp) × IsTimeOf clock units time × (shown.seconds ≡ time.seconds) × (shown.nanoseconds ≡ time.nanoseconds)
ShowsTime clock units None = (time : Timestamp) × IsTimeOf clock units time × (FitsSigned w64 time.seconds → ⊥)
