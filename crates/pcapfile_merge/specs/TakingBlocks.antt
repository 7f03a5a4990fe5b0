-- The packets that are taken from a reader of blocks.
use Rattle.std.specs.Prelude.{⊤, ◌≡◌, ◌⊎◌, ◌<◌, ◌≤◌, ◌-◌, ◌^◌, ℕ, List, [], ◌∷◌, length, map, true, false, Option, None, Some, codes}
use Rattle.std.specs.List.{AllByRecursion, slice_get}
use Rattle.pcap_core.specs.declared.common.Endianness.{Endianness}
use Rattle.pcap_core.specs.declared.common.Endianness.TheVariants.{Little}
use Rattle.pcap_core.specs.declared.errors.PcapError.{PcapError}
use Rattle.pcap_core.specs.Errors.{IsMemory}
use Rattle.pcap_core.specs.Answer.{whole, lacks, faulty, Refuses}
use Rattle.pcap_items.specs.Format.{state_after}
use Rattle.pcap_items.specs.Takes.{TakesTexts}
use Rattle.pcap_times.specs.declared.clock.Timestamp.{Timestamp}
use Rattle.pcap_blocks.specs.EnhancedPacket.{Enhanced}
use Rattle.pcap_blocks.specs.InterfaceDescription.{Interface}
use Rattle.pcap_blocks.specs.ParsedBlock.{Body, EnhancedBody}
use Rattle.pcap_blocks.specs.StoredPacket.{Stored}
use Rattle.pcap_written.specs.declared.unwritable.Unput.{Unput}
use Rattle.pcap_written.specs.Plain.{plain_packet}
use Rattle.pcap_written.specs.Puts.{IsShownAs, RefusesPut}
use Rattle.pcap_written.specs.Writing.{FlawIn}
use Rattle.pcap_file.specs.Converted.{little_text}
use Rattle.pcap_blocks.specs.InterfaceTimes.{IsTimeAt}
use Rattle.pcap_file.specs.declared.run.unplaced.Unplaced.TheVariants.{InterfaceMissing}
use Rattle.pcap_ng.specs.Blocks.{Item, block_format}
use Rattle.pcap_ng.specs.Bodies.{GrowsInBody, SaysOfBody}
use Rattle.pcap_ng.specs.Frames.{Framed}
use Rattle.pcap_file.specs.Placed.{is_packet, unplaced_message}
use Rattle.pcap_ng.specs.State.{interfaces_at}
use Rattle.pcap_file.specs.Placing.{HasMessage, RefusesNext, Source, TakesNext, TakesNone}
use Rattle.pcapfile_run.specs.BlockPackets.{HoldsPacket, InBlock}
use Rattle.pcapfile_merge.specs.declared.kept.Kept.{Kept}
use Rattle.pcapfile_merge.specs.declared.packet.Pending.{Pending}
use Rattle.pcapfile_merge.specs.Keeping.{IsKeptAs, IsNumbered, IsUnkept, Progress, first_number, gives, is_carried, is_interface, of_section, with_item, with_items}
use Rattle.pcapfile_merge.specs.Packets.{Packet}
use Rattle.pcapfile_merge.specs.Renewing.{HasOldOptions, options_left_out, renewed}
use Rattle.pcapfile_merge.specs.Reordered.{NeedReordering, little_entry}
use Rattle.pcapfile_merge.specs.Taking.{packet_in}

-- A packet of an interface has this time, and this many units of its clock; a packet without a time has none.
abbrev pub IsTimeBy : Interface → Option ℕ → Option Timestamp → ℕ → Type 0
IsTimeBy by (Some counted) (Some time) units = IsTimeAt by counted time × (units ≡ counted)
IsTimeBy by (Some counted) None units = ⊥
IsTimeBy by None time units = (time ≡ None) × (units ≡ 0)

-- A stored packet of a section of this order, as a little-endian section has it.
abbrev pub little_packet : Endianness → Stored → Stored
little_packet order packet = record {
  timestamp = packet.timestamp;
  captured_len = packet.captured_len;
  original_len = packet.original_len;
  bytes = packet.bytes;
  options = map (little_entry order) packet.options;
}

-- An enhanced packet of a section of this order, as a little-endian section has it, with another interface number.
abbrev pub numbered : Endianness → ℕ → Enhanced → Enhanced
numbered order number enhanced = record { interface_id = number; packet = little_packet order enhanced.packet }

-- The enhanced packet that a body is, if it is one.
abbrev pub enhanced_in : Body → Option Enhanced
enhanced_in (EnhancedBody enhanced) = Some enhanced
enhanced_in _ = None

-- The block written for a packet of a section of this order, with this interface number. An enhanced packet keeps its time, lengths, bytes
-- and all options, with their numbers in little-endian order. A simple packet keeps its length on the wire and its bytes.
abbrev pub block_under : Endianness → ℕ → ℕ → InBlock → Option Enhanced → Body
block_under order number units packet (Some enhanced) = EnhancedBody (numbered order number enhanced)
block_under order number units packet None = EnhancedBody (plain_packet number units packet.original_len packet.bytes)

-- The packet that a merge makes of one in a block of this order with this body. Its time is that of its interface's clock, and its block
-- gets the number that its interface has in the output.
pub record IsMerged (order : Endianness) (numbers : List ℕ) (interfaces : List Interface) (body : Body) (packet : InBlock) (p : Packet) : Type 0 where
  pub by : Interface
  pub described : slice_get interfaces packet.interface ≡ Some by
  pub number : ℕ
  pub is_numbered : IsNumbered numbers packet.interface number
  pub units : ℕ
  pub time : IsTimeBy by packet.units p.time units
  pub text : p.text ≡ little_text (block_under order number units packet (enhanced_in (renewed body)))
  pub no_interface : p.is_interface ≡ false
  pub left_out : p.left_out ≡ options_left_out body

-- A block holds the packet of which a merge makes this one.
abbrev pub HoldsMerged : List ℕ → List Interface → Framed → Packet → Type 0
HoldsMerged numbers interfaces block p =
    (is_packet block.type_ ≡ true) × (packet : InBlock) × (holds : HoldsPacket interfaces block packet) × IsMerged block.endianness numbers interfaces holds.body packet p

-- The block of an interface with this body, as the output has it. It goes before the next packet, since it has no time.
abbrev pub described_as : Body → Packet
described_as body = record { time = None; text = little_text body; is_interface = true; left_out = 0 }

-- A block describes the interface of which a merge makes this block.
abbrev pub Describes : Framed → Packet → Type 0
Describes block p = (is_interface block.type_ ≡ true) × (body : Body) × (rest : List ℕ) × SaysOfBody block (whole body rest) × (p ≡ described_as body)

-- A block gives the packet that it holds, the interface that it describes, or itself if it is kept. It gives nothing if it is left out.
-- The interfaces of its section have these numbers in the output.
abbrev pub GivesOf : List ℕ → List Interface → Framed → Option Packet → Type 0
GivesOf numbers interfaces block (Some p) = HoldsMerged numbers interfaces block p ⊎ Describes block p ⊎ IsKeptAs numbers interfaces block p
GivesOf numbers interfaces block None = gives interfaces block ≡ false

-- GivesIn numbers item packet: the same for a block of a capture.
abbrev pub GivesIn : List ℕ → Item → Option Packet → Type 0
GivesIn numbers item = GivesOf numbers (interfaces_at item.after) item.block

-- AllGive numbers kept items packets: the blocks behind those that `kept` counts give these packets. The interfaces of the input have these
-- numbers in the output, in the order of its blocks.
abbrev pub AllGive : List ℕ → Kept → List Item → List (Option Packet) → Type 0
AllGive numbers kept [] [] = ⊤
AllGive numbers kept (item ∷ items) (packet ∷ packets) = GivesIn (of_section (with_item item kept) numbers) item packet × AllGive numbers (with_item item kept) items packets
AllGive numbers kept _ _ = ⊥

-- The interface has no number of 32 bits in the output.
abbrev pub HasNoNumber : List ℕ → ℕ → PcapError → Type 0
HasNoNumber numbers own e = ((number : ℕ) → IsNumbered numbers own number → ⊥) × HasMessage (codes "Block: too many interfaces") e

-- Why a packet in a block can't be merged.
pub data IsUnfit (numbers : List ℕ) (interfaces : List Interface) (packet : InBlock) (e : PcapError) : Type 0 where
  -- Its interface isn't described before it.
  not_described : slice_get interfaces packet.interface ≡ None → HasMessage (unplaced_message InterfaceMissing) e → IsUnfit numbers interfaces packet e
  -- The number of its interface doesn't fit into 32 bits.
  too_many : HasNoNumber numbers packet.interface e → IsUnfit numbers interfaces packet e
  -- It doesn't fit into a block.
  too_long : 4294967260 < length packet.bytes → HasMessage (codes "Block: a packet that is too long") e → IsUnfit numbers interfaces packet e

-- Why a block with this body can't be written: its options can't be written, the program is out of memory, or it is too long.
pub data IsUnwritten (body : Body) (e : PcapError) : Type 0 where
  unput : (why : Unput) → RefusesPut (FlawIn Little body) why → IsShownAs why e → IsUnwritten body e
  block_long : 4294967260 < length (little_text body) → HasMessage (codes "Block: a block that is too long") e → IsUnwritten body e

-- Why an enhanced packet of a section of this order can't be written with this number: there is no memory for an option with its numbers
-- in little-endian order, or its block can't be written.
pub data IsUnmade (order : Endianness) (number : ℕ) (enhanced : Enhanced) (e : PcapError) : Type 0 where
  unordered : NeedReordering order enhanced.packet.options → IsMemory e → IsUnmade order number enhanced e
  unwritten : IsUnwritten (EnhancedBody (numbered order number enhanced)) e → IsUnmade order number enhanced e

-- Why a block without a packet can't be kept: there is no memory for it, it is too long, or the interface of its statistics has no number
-- of 32 bits.
abbrev pub IsUnkeptUnder : List ℕ → Framed → PcapError → Type 0
IsUnkeptUnder numbers block e =
    IsUnkept block e ⊎ (((own number : ℕ) → first_number block.body ≡ Some own → IsNumbered numbers own number → ⊥) × HasMessage (codes "Block: too many interfaces") e)

-- Why a block that was taken ends a capture that is merged.
pub data EndsBlock (numbers : List ℕ) (interfaces : List Interface) (block : Framed) (e : PcapError) : Type 0 where
  -- It holds a packet or describes an interface, and its body is refused.
  body_refused : (is_packet block.type_ ≡ true) ⊎ (is_interface block.type_ ≡ true) → Refuses (GrowsInBody block) (λ n. SaysOfBody block (lacks n)) (λ fault. SaysOfBody block (faulty fault)) e
      → EndsBlock numbers interfaces block e
  -- It holds a packet that can't be merged.
  packet_unfit : (packet : InBlock) → HoldsPacket interfaces block packet → IsUnfit numbers interfaces packet e → EndsBlock numbers interfaces block e
  -- It is an obsolete packet, and there is no memory for the list of its options.
  packet_unlisted : (packet : InBlock) (holds : HoldsPacket interfaces block packet) → HasOldOptions holds.body → IsMemory e → EndsBlock numbers interfaces block e
  -- It is an enhanced packet or an obsolete one that can't be written with its number.
  packet_unmade : (packet : InBlock) (holds : HoldsPacket interfaces block packet) (enhanced : Enhanced) → enhanced_in (renewed holds.body) ≡ Some enhanced
      → (number : ℕ) → IsNumbered numbers packet.interface number → IsUnmade block.endianness number enhanced e → EndsBlock numbers interfaces block e
  -- It describes an interface that can't be written.
  interface_unmade : is_interface block.type_ ≡ true → (body : Body) (rest : List ℕ) → SaysOfBody block (whole body rest) → IsUnwritten body e → EndsBlock numbers interfaces block e
  -- It holds no packet and can't be kept.
  block_unkept : is_carried interfaces block ≡ true → IsUnkeptUnder numbers block e → EndsBlock numbers interfaces block e

-- The next block was taken and counted.
abbrev pub TakesItem : Progress → Progress → Item → Type 0
TakesItem a b item = TakesNext a.source b.source item × (b.kept ≡ with_item item a.kept)

-- The next block ends a capture that is merged: it is refused, or it is taken and ends the capture.
abbrev pub EndsAt : List ℕ → Progress → Progress → PcapError → Type 0
EndsAt numbers a b e =
    ((b.kept ≡ a.kept) × RefusesNext a.source b.source e)
    ⊎ ((item : Item) × TakesItem a b item × EndsBlock (of_section b.kept numbers) (interfaces_at item.after) item.block e)

-- A block is skipped if it gives nothing.
abbrev pub MayPass : Item → Type 0
MayPass item = gives (interfaces_at item.after) item.block ≡ false

-- A reader has refused nothing, and no read of its stream failed.
abbrev pub IsGoing : Source → Type 0
IsGoing a = (a.done ≡ false) × (a.failed ≡ false)

-- Blocks that give nothing were skipped and counted.
pub record Passes (a b : Progress) : Type 0 where
  pub items : List Item
  pub may_pass : AllByRecursion MayPass items
  pub took : TakesTexts block_format a.source.state items a.source.left b.source.left
  pub in_force : state_after block_format a.source.state items ≡ b.source.state
  pub goes_on : IsGoing b.source
  pub counts : b.kept ≡ with_items items a.kept

-- The most blocks that a reader skips without a packet.
abbrev pub most_passed : ℕ
most_passed = 2 ^ 64 - 1

-- After n blocks, the stream is at its end, or the reader skipped the most blocks.
abbrev pub EndsWell : Progress → Progress → ℕ → Type 0
EndsWell a b n = ((b.kept ≡ a.kept) × TakesNone a.source b.source) ⊎ ((b ≡ a) × (most_passed ≤ n))

-- Blocks were skipped up to one that gives the packet with these facts, or to the end, or an error ended the capture.
abbrev pub TakesStored : List ℕ → Progress → Progress → (Pending → List ℕ) → Option Pending → Option PcapError → Type 0
TakesStored numbers a b bytes (Some pending) None =
    (mid : Progress) × Passes a mid × (item : Item) × TakesItem mid b item × GivesIn (of_section b.kept numbers) item (Some (packet_in (bytes pending) pending))
TakesStored numbers a b bytes None None = (mid : Progress) × (passed : Passes a mid) × EndsWell mid b (length passed.items)
TakesStored numbers a b bytes None (Some e) = (mid : Progress) × Passes a mid × EndsAt numbers mid b e
TakesStored numbers a b bytes (Some pending) (Some e) = ⊥
