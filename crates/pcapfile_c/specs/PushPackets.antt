-- What the call returns that reads a packet of a PcapNg capture in pieces.
use Rattle.std.specs.Prelude.{◌≡◌, ◌<◌, ◌≤◌, ◌-◌, ◌^◌, ◌⊎◌, ⊤, ℕ, ℤ, pos, List, [], length, take, filter, Bool, true, false, Option, Some, None}
use Rattle.std.specs.List.{All, AllZip, slice_get}
use Rattle.pcap_core.specs.declared.rules.Rule.TheVariants.{SectionMagic}
use Rattle.pcap_core.specs.Answer.{Verdict, Says, number_in, whole, faulty}
use Rattle.pcap_items.specs.Format.{Texts, state_after}
use Rattle.pcap_blocks.specs.declared.block_type.BlockType.TheVariants as types
use Rattle.pcap_blocks.specs.InterfaceDescription.{Interface}
use Rattle.pcap_blocks.specs.ParsedBlock.{Body, BodySays}
use Rattle.pcap_ng.specs.Blocks.{Item, BlockSays, BlockText, MayGrow, block_format}
use Rattle.pcap_ng.specs.Frames.{FrameLacks}
use Rattle.pcap_ng.specs.State.{State, opening, within, order_at}
use Rattle.pcap_ng.specs.State.{interfaces_at}
use Rattle.pcapfile_values.specs.declared.any_packets.PcapfileAnyPacket.{PcapfileAnyPacket}
use Rattle.pcapfile_values.specs.declared.blocks.PcapfileSection.{PcapfileSection}
use Rattle.pcapfile_values.specs.declared.bodies.PcapfileInterface.{PcapfileInterface}
use Rattle.pcapfile_values.specs.declared.bodies.PcapfileNgPacket.{PcapfileNgPacket}
use Rattle.pcapfile_values.specs.declared.errors.PcapfileError.{PcapfileError}
use Rattle.pcapfile_values.specs.AnyPackets.{ShowsAny}
use Rattle.pcapfile_values.specs.Blocks.{ShowsState}
use Rattle.pcapfile_values.specs.Bodies.{HasBase, IsTakenFor, ShowsPacket}
use Rattle.pcapfile_values.specs.Refusals.{ShowsRule, TellsRefusalWhere}
use Rattle.pcapfile_c.specs.declared.push.PcapfilePush.{PcapfilePush}
use Rattle.pcapfile_c.specs.Batches.{PacketFault, PacketMayGrow, is_packet}
use Rattle.pcapfile_c.specs.Push.{LiesWithin, LiesOutside, held_in}
use Rattle.pcapfile_c.specs.PushBlocks.{HoldsRest}
use Rattle.pcapfile_c.specs.Readers.{PacketReader, packet_reader}

-- The structs show the state: the section, and its interfaces in the first places.
abbrev pub ShowsInForce : PcapfileSection → List PcapfileInterface → State → Type 0
ShowsInForce section places opening = section.magic_number ≡ 0
ShowsInForce section places (within s interfaces) = ShowsState section (within s interfaces) × AllZip IsTakenFor interfaces (take section.interfaces places)

-- The structs in the places of the section's interfaces have the bases of their units, each 2 or 10.
abbrev pub HaveBases : PcapfileSection → List PcapfileInterface → Type 0
HaveBases section places = All HasBase (take section.interfaces places)

-- The struct counts as this interface, or both are missing.
abbrev pub ShowsFound : Option Interface → Option PcapfileInterface → Type 0
ShowsFound (Some interface) (Some shown) = IsTakenFor interface shown
ShowsFound None None = ⊤
ShowsFound _ _ = ⊥

-- The block is a packet.
abbrev pub is_packet_block : Item → Bool
is_packet_block item = is_packet item.block.type_

-- The struct shows the packet in this block under this state, with its interface if the section has it.
pub record ShowsItem (q : State) (item : Item) (shown : PcapfileAnyPacket) : Type 0 where
  pub body : Body
  pub after : List ℕ
  pub says : BodySays (number_in (order_at q)) item.block.type_ item.block.body (whole body after)
  pub packet : PcapfileNgPacket
  pub reads : ShowsPacket body packet
  pub interface : Option PcapfileInterface
  pub found : ShowsFound (slice_get (interfaces_at q) packet.interface_id) interface
  pub shows : ShowsAny interface packet shown

-- GivesPacket q s rest shown: `s` is a packet under this state, which the struct shows, and then `rest`.
pub record GivesPacket (q : State) (s rest : List ℕ) (shown : PcapfileAnyPacket) : Type 0 where
  pub item : Item
  pub text : BlockText q item s rest
  pub is : is_packet_block item ≡ true
  pub stays : item.after ≡ q
  pub shows : ShowsItem q item shown

-- ReadText q item s rest: `s` is a block under this state, whose body is good if it is a packet, and then `rest`.
pub record ReadText (q : State) (item : Item) (s rest : List ℕ) : Type 0 where
  pub text : BlockText q item s rest
  pub body : is_packet item.block.type_ ≡ true → (body : Body) × (after : List ℕ) × BodySays (number_in (order_at q)) item.block.type_ item.block.body (whole body after)

-- The verdict on bytes that should begin with a block, where the body of a packet is read too.
abbrev pub ReadSays : State → List ℕ → Verdict Item → Type 0
ReadSays q s = Says (λ item rest. ReadText q item s rest) (FrameLacks (order_at q) s) (λ fault. BlockSays q s (faulty fault) ⊎ PacketFault (order_at q) s fault)

-- Memory is allocated only if reading the block or the body of its packet may need it.
abbrev pub ReadMayGrow : State → List ℕ → Type 0
ReadMayGrow q s = MayGrow q s ⊎ PacketMayGrow (order_at q) s

-- The bytes begin with an interface for which there is no place: all places are in use, or 2^32 - 1 interfaces are counted.
abbrev pub LacksPlace : State → PcapfileSection → List PcapfileInterface → List ℕ → Type 0
LacksPlace q section places s =
    (item : Item) × (after : List ℕ) × (item.block.type_ ≡ types.InterfaceDescription) × BlockSays q s (whole item after)
    × ((length places ≤ section.interfaces) ⊎ (section.interfaces ≡ 2 ^ 32 - 1))

-- No packet is returned: status 11 if there is no place for an interface, or what is left is refused.
abbrev pub Stops : State → PcapfileSection → List PcapfileInterface → List ℕ → PcapfileError → PcapfileError → ℤ → Type 0
Stops q section places s error told status =
    ((status ≡ pos 11) × (told ≡ error) × LacksPlace q section places s)
    ⊎ TellsRefusalWhere (ReadMayGrow q s) (ReadSays q s) told status

-- PutsBlock q next now s rest: `s` is a block that is no packet, and then `rest`, and the structs show the state after it.
abbrev pub PutsBlock : State → PcapfileSection → List PcapfileInterface → List ℕ → List ℕ → Type 0
PutsBlock q next now s rest = (item : Item) × (is_packet_block item ≡ false) × BlockSays q s (whole item rest) × ShowsInForce next now item.after

-- The end of a search for a packet: it is read, or what is left gives none.
abbrev pub EndsWalk : State → PcapfileSection → List PcapfileInterface → List ℕ → List ℕ → PcapfileAnyPacket → PcapfileAnyPacket → PcapfileError → PcapfileError → ℤ → Type 0
EndsWalk q section places s rest old packet error told status =
    ((status ≡ pos 0) × (told ≡ error) × GivesPacket q s rest packet)
    ⊎ ((packet ≡ old) × (rest ≡ s) × Stops q section places s error told status)

-- A reader of blocks that sets nothing but the state and the error.
abbrev pub StateReader : Type 0
StateReader = PacketReader (List ℕ) (Unit {0})

-- A reader of packets one at a time.
abbrev pub OneReader : Type 0
OneReader = PacketReader (List ℕ) PcapfileAnyPacket

-- The result of a block that is no packet: the structs show the state after it, or the search ends before it with this status.
abbrev pub PutsTells : State → StateReader → StateReader → Option ℤ → Type 0
PutsTells q old new None = (new.error ≡ old.error) × PutsBlock q new.section new.places old.left new.left
PutsTells q old new (Some status) =
    (new.section ≡ old.section) × (new.places ≡ old.places) × (new.left ≡ old.left) × Stops q old.section old.places old.left old.error new.error status

-- The result of a block: it is no packet and the structs show the state after it, or the search ends here with this status.
abbrev pub StepTells : State → OneReader → OneReader → Option ℤ → Type 0
StepTells q old new None = (new.error ≡ old.error) × (new.value ≡ old.value) × PutsBlock q new.section new.places old.left new.left
StepTells q old new (Some status) =
    (new.section ≡ old.section) × (new.places ≡ old.places)
    × EndsWalk q old.section old.places old.left new.left old.value new.value old.error new.error status

-- Fewer bytes are left if the search goes on, and no more than before if it ends.
abbrev pub LeavesFewer : List ℕ → List ℕ → Option ℤ → Type 0
LeavesFewer s rest None = length rest < length s
LeavesFewer s rest (Some status) = length rest ≤ length s

-- The packet at the front of the bytes under this state, after blocks that are no packets. Status 0: the struct shows it. Another status:
-- no packet follows these blocks, and the struct is unchanged.
pub record TakesFrontPacket (q : State) (old new : OneReader) (status : ℤ) : Type 0 where
  pub passed : List Item
  pub mid : List ℕ
  pub texts : Texts block_format q passed old.left mid
  pub none : filter is_packet_block passed ≡ []
  pub in_force : ShowsInForce new.section new.places (state_after block_format q passed)
  pub ends : EndsWalk (state_after block_format q passed) new.section new.places mid new.left old.value new.value old.error new.error status

-- Every place is unchanged whose number is at least the number of interfaces after each of these blocks.
abbrev pub OthersStay : List Item → List PcapfileInterface → List PcapfileInterface → Type 0
OthersStay passed places now = (i : ℕ) → All (λ (item : Item). length (interfaces_at item.after) ≤ i) passed → slice_get now i ≡ slice_get places i

-- That holds for the blocks that were read from `s`, which left `rest`, and the structs show the state after them.
pub record LeavesOthers (q : State) (next : PcapfileSection) (places now : List PcapfileInterface) (s rest : List ℕ) : Type 0 where
  pub passed : List Item
  pub texts : Texts block_format q passed s rest
  pub in_force : ShowsInForce next now (state_after block_format q passed)
  pub others : OthersStay passed places now

-- A reader of packets in pieces, one at a time.
abbrev pub PacketPush : Type 0
PacketPush = PacketReader PcapfilePush PcapfileAnyPacket

-- A reader of the held bytes of this room.
abbrev pub held_packets : {S : Type 0} → List ℕ → PacketReader PcapfilePush S → PacketReader (List ℕ) S
held_packets room r = packet_reader r.section r.places (held_in r.left room) r.value r.error

-- Nothing changed: status 10.
pub record LeavesPackets (old new : PacketPush) (status : ℤ) : Type 0 where
  pub status_is : status ≡ pos 10
  pub error_is : new.error ≡ old.error
  pub push_is : new.left ≡ old.left
  pub section_is : new.section ≡ old.section
  pub places_are : new.places ≡ old.places
  pub packet_is : new.value ≡ old.value

-- The arguments are invalid: the held bytes are outside of the room, or the section has more interfaces than there are places.
abbrev pub MakesNoSense : PcapfilePush → PcapfileSection → List PcapfileInterface → List ℕ → Type 0
MakesNoSense before section places room = LiesOutside before room ⊎ (length places < section.interfaces)

-- The packet at the front of the held bytes, whose rest stays held.
abbrev pub TakesNextPacket : State → List ℕ → PacketPush → PacketPush → ℤ → Type 0
TakesNextPacket q room old new status =
    (HoldsRest old.left new.left room × TakesFrontPacket q (held_packets room old) (held_packets room new) status)
    ⊎ (MakesNoSense old.left old.section old.places room × LeavesPackets old new status)

-- The magic number names no byte order, and nothing else changed; or the arguments of the call are invalid.
abbrev pub RefusesNextPacket : List ℕ → PacketPush → PacketPush → ℤ → Type 0
RefusesNextPacket room old new status =
    (LiesWithin old.left room × (status ≡ pos 3) × ShowsRule SectionMagic new.error
    × (new.left ≡ old.left) × (new.section ≡ old.section) × (new.places ≡ old.places) × (new.value ≡ old.value))
    ⊎ (MakesNoSense old.left old.section old.places room × LeavesPackets old new status)
