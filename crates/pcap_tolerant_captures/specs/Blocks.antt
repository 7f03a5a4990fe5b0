-- Blocks read leniently, under the section and interfaces in force.
use Rattle.std.specs.Prelude.{◌≡◌, ◌≢◌, ◌<◌, ◌⊎◌, ℕ, List, length, map, Option, Some, None}
use Rattle.pcap_core.specs.Answer.{Order, Verdict, Says, number_in}
use Rattle.pcap_core.specs.Faults.{Fault}
use Rattle.pcap_items.specs.Format.{Format}
use Rattle.pcap_items.specs.Headed.{good, bad}
use Rattle.pcap_blocks.specs.NameResolution.{names_of}
use Rattle.pcap_blocks.specs.declared.block_type.BlockType.{BlockType}
use Rattle.pcap_blocks.specs.declared.block_type.BlockType.TheVariants as types
use Rattle.pcap_ng.specs.Frames.{Framed, framed_of, FrameText, FrameLacks, FrameFault}
use Rattle.pcap_tolerant_blocks.specs.declared.enhanced.EnhancedAsIs.{EnhancedAsIs}
use Rattle.pcap_tolerant_blocks.specs.EnhancedAsIs.{EnhancedText, EnhancedGrows, enhanced_in, flaws_said}
use Rattle.pcap_tolerant_blocks.specs.Flaws.{Said, said_of}
use Rattle.pcap_tolerant_blocks.specs.declared.names.NamesAsIs.{NamesAsIs}
use Rattle.pcap_tolerant_blocks.specs.NamesAsIs.{NamesText, NamesGrow}
use Rattle.pcap_tolerant_blocks.specs.NamesAsIs as names
use Rattle.pcap_tolerant_blocks.specs.declared.packet_block.PacketBlockAsIs.{PacketBlockAsIs}
use Rattle.pcap_tolerant_blocks.specs.PacketBlockAsIs.{PacketBlockText, PacketBlockGrows, packet_in}
use Rattle.pcap_tolerant_blocks.specs.PacketBlockAsIs as packet_block
use Rattle.pcap_tolerant_blocks.specs.declared.simple.SimpleAsIs.{SimpleAsIs}
use Rattle.pcap_tolerant_blocks.specs.SimpleAsIs.{SimpleAsIsText, simple_in}
use Rattle.pcap_tolerant_blocks.specs.SimpleAsIs as simple
use Rattle.pcap_tolerant_blocks.specs.declared.statistics.StatisticsAsIs.{StatisticsAsIs}
use Rattle.pcap_tolerant_blocks.specs.StatisticsAsIs.{StatisticsAsIsText, StatisticsGrow, statistics_in}
use Rattle.pcap_tolerant_blocks.specs.StatisticsAsIs as statistics
use Rattle.pcap_tolerant_captures.specs.declared.block.BlockAsIs.{BlockAsIs}
use Rattle.pcap_tolerant_captures.specs.declared.parser.OpenedAsIs.{OpenedAsIs}
use Rattle.pcap_tolerant_captures.specs.State.{State, order_at, Led, Means, CanGrow, state_of}

-- A block, the flaws of its body, and the section and interfaces in force after it.
pub record Item : Type 0 where
  pub block : Framed
  pub led : Led

-- The block that the code returned, with the state after it.
abbrev pub item_of : State → BlockAsIs → Item
item_of after x = record { block = framed_of x.block; led = record { flaws = map said_of x.flaws.items; after = after } }

-- The first block of a capture, and the section in force after it.
abbrev pub opened_of : OpenedAsIs → Item
opened_of x = item_of (state_of x.parser) x.first

-- `s` is the text of a block under this state, read leniently, followed by `rest`.
pub record AsIsText (q : State) (item : Item) (s rest : List ℕ) : Type 0 where
  pub frame : FrameText (order_at q) item.block s rest
  pub means : Means q item.block (good item.led)

-- `s` begins with a whole frame, but its body gives no byte order, or the first block is no section header.
pub record BodyFault (q : State) (s : List ℕ) (fault : Fault) : Type 0 where
  pub block : Framed
  pub rest : List ℕ
  pub frame : FrameText (order_at q) block s rest
  pub means : Means q block (bad fault)

-- The answers of lenient reading where the bytes should begin with a block.
abbrev pub AsIsSays : State → List ℕ → Verdict Item → Type 0
AsIsSays q s = Says (λ item rest. AsIsText q item s rest) (FrameLacks (order_at q) s) (λ fault. FrameFault (order_at q) s fault ⊎ BodyFault q s fault)

-- `s` begins with a whole block whose body is kept. Only then does a call need memory.
pub record MayGrow (q : State) (s : List ℕ) : Type 0 where
  pub block : Framed
  pub rest : List ℕ
  pub frame : FrameText (order_at q) block s rest
  pub grows : CanGrow q block

-- The format of blocks read leniently, the first of which is a section header.
unfoldable pub as_is_format : Format State Item
as_is_format = record { says = AsIsSays; goes = λ q item. item.led.after; head = λ q. 12 }

-- The contents of the body of a block of this type, read leniently, or None if the block has another type.
abbrev pub IsBodyOf : {X V : Type 0} → BlockType → (Order → Option V → List Said → List ℕ → List ℕ → Type 0) → (X → Option V) → (X → List Said) → Framed → Option X → Type 0
IsBodyOf type IsText value flaws b None = b.type_ ≢ type
IsBodyOf type IsText value flaws b (Some x) = (b.type_ ≡ type) × ((rest : List ℕ) × IsText (number_in b.endianness) (value x) (flaws x) b.body rest)

-- The enhanced packet in a block's body, read leniently.
abbrev pub IsPacketIn : Framed → Option EnhancedAsIs → Type 0
IsPacketIn = IsBodyOf types.EnhancedPacket EnhancedText enhanced_in flaws_said

-- The simple packet in a block's body, read leniently.
abbrev pub IsSimpleIn : Framed → Option SimpleAsIs → Type 0
IsSimpleIn = IsBodyOf types.SimplePacket SimpleAsIsText simple_in simple.flaws_said

-- The obsolete packet in a block's body, read leniently.
abbrev pub IsPacketBlockIn : Framed → Option PacketBlockAsIs → Type 0
IsPacketBlockIn = IsBodyOf types.Packet PacketBlockText packet_in packet_block.flaws_said

-- The interface statistics in a block's body, read leniently.
abbrev pub AreStatisticsIn : Framed → Option StatisticsAsIs → Type 0
AreStatisticsIn = IsBodyOf types.InterfaceStatistics StatisticsAsIsText statistics_in statistics.flaws_said

-- The names of addresses in a block's body with their flaws, or None if the block has another type.
abbrev pub AreNamesIn : Framed → Option NamesAsIs → Type 0
AreNamesIn b None = b.type_ ≢ types.NameResolution
AreNamesIn b (Some x) = (b.type_ ≡ types.NameResolution) × ((rest : List ℕ) × NamesText (number_in b.endianness) (names_of x.names) (names.flaws_said x) b.body rest)

-- A list grows when a body is read as this type: the block has this type, and a list keeps something of its body.
abbrev pub GrowsIn : BlockType → (Order → List ℕ → Type 0) → Framed → Type 0
GrowsIn type Grows b = (b.type_ ≡ type) × Grows (number_in b.endianness) b.body

-- An enhanced packet is read that has a flaw or an option.
abbrev pub PacketGrowsIn : Framed → Type 0
PacketGrowsIn = GrowsIn types.EnhancedPacket EnhancedGrows

-- A simple packet is read whose body has no room for its length.
abbrev pub SimpleGrowsIn : Framed → Type 0
SimpleGrowsIn = GrowsIn types.SimplePacket (λ order s. length s < 4)

-- An obsolete packet is read that has a flaw or an option.
abbrev pub PacketBlockGrowsIn : Framed → Type 0
PacketBlockGrowsIn = GrowsIn types.Packet PacketBlockGrows

-- Statistics are read that have a flaw or an option.
abbrev pub StatisticsGrowIn : Framed → Type 0
StatisticsGrowIn = GrowsIn types.InterfaceStatistics StatisticsGrow

-- Names are read that have a flaw, a record or an option.
abbrev pub NamesGrowIn : Framed → Type 0
NamesGrowIn = GrowsIn types.NameResolution NamesGrow
