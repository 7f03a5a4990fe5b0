-- What the call returns that reads many packets of a PcapNg capture in pieces.
use Rattle.std.specs.Prelude.{◌≡◌, ◌<◌, ◌≤◌, ◌⊎◌, ⊤, ℕ, ℤ, pos, List, [], ◌∷◌, length, take, drop, filter, true}
use Rattle.std.specs.List.{AllZip}
use Rattle.pcap_core.specs.declared.rules.Rule.TheVariants.{SectionMagic}
use Rattle.pcap_items.specs.Format.{Texts, state_after}
use Rattle.pcap_ng.specs.Blocks.{Item}
use Rattle.pcap_ng.specs.State.{State}
use Rattle.pcapfile_values.specs.declared.any_packets.PcapfileAnyPacket.{PcapfileAnyPacket}
use Rattle.pcapfile_values.specs.Refusals.{ShowsRule}
use Rattle.pcapfile_c.specs.declared.push.PcapfilePush.{PcapfilePush}
use Rattle.pcapfile_c.specs.Push.{LiesWithin}
use Rattle.pcapfile_c.specs.PushBatches.{FillsNone}
use Rattle.pcapfile_c.specs.PushBlocks.{HoldsRest}
use Rattle.pcapfile_c.specs.PushPackets.{MakesNoSense, ShowsInForce, Stops, held_packets, is_packet_block}
use Rattle.pcapfile_c.specs.ReadBlocks.{ShowsThere, each_under, is_packet_there, read_format}
use Rattle.pcapfile_c.specs.Readers.{PacketReader}

-- The last of these blocks, if there is one, is a packet.
abbrev pub PacketIsLast : List Item → Type 0
PacketIsLast [] = ⊤
PacketIsLast (item ∷ []) = is_packet_block item ≡ true
PacketIsLast (item ∷ next ∷ items) = PacketIsLast (next ∷ items)

-- A reader of many packets.
abbrev pub ManyReader : Type 0
ManyReader = PacketReader (List ℕ) (List PcapfileAnyPacket)

-- A reader of many packets in pieces.
abbrev pub ManyPush : Type 0
ManyPush = PacketReader PcapfilePush (List PcapfileAnyPacket)

-- Blocks under this state are at the front of the bytes, before what is left, and the structs show the state after them. The first places
-- show their packets, each with its interface, and all other places are unchanged. Status 0: every place is filled, and nothing after the
-- last packet was read. Another status: fewer are, and no packet follows.
pub record TakesFrontNgPackets (q : State) (old new : ManyReader) (taken : ℕ) (status : ℤ) : Type 0 where
  pub items : List Item
  pub texts : Texts read_format q items old.left new.left
  pub in_force : ShowsInForce new.section new.places (state_after read_format q items)
  pub within : taken ≤ length new.value
  pub shows : AllZip ShowsThere (filter is_packet_there (each_under q items)) (take taken new.value)
  pub others : drop taken new.value ≡ drop taken old.value
  pub ends : ((status ≡ pos 0) × (new.error ≡ old.error) × (taken ≡ length new.value) × PacketIsLast items)
      ⊎ ((taken < length new.value) × Stops (state_after read_format q items) new.section new.places new.left old.error new.error status)

-- Nothing changed: status 10.
abbrev pub LeavesNgPackets : ManyPush → ManyPush → ℕ → ℤ → Type 0
LeavesNgPackets old new taken status =
    (status ≡ pos 10) × (new.error ≡ old.error) × (new.left ≡ old.left) × (new.section ≡ old.section) × (new.places ≡ old.places)
    × FillsNone old.value new.value taken

-- The packets at the front of the held bytes, whose rest stays held.
abbrev pub TakesNextNgPackets : State → List ℕ → ManyPush → ManyPush → ℕ → ℤ → Type 0
TakesNextNgPackets q room old new taken status =
    (HoldsRest old.left new.left room × TakesFrontNgPackets q (held_packets room old) (held_packets room new) taken status)
    ⊎ (MakesNoSense old.left old.section old.places room × LeavesNgPackets old new taken status)

-- The magic number names no byte order, and nothing else changed; or the arguments of the call are invalid.
abbrev pub RefusesNextNgPackets : List ℕ → ManyPush → ManyPush → ℕ → ℤ → Type 0
RefusesNextNgPackets room old new taken status =
    (LiesWithin old.left room × (status ≡ pos 3) × ShowsRule SectionMagic new.error
    × (new.left ≡ old.left) × (new.section ≡ old.section) × (new.places ≡ old.places) × FillsNone old.value new.value taken)
    ⊎ (MakesNoSense old.left old.section old.places room × LeavesNgPackets old new taken status)
