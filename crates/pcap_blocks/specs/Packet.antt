-- The body of an obsolete packet block ('Packet Block').
use Rattle.std.specs.Prelude.{◌≡◌, ◌<◌, ℕ, List, [], length, map, All}
use Rattle.pcap_core.specs.Answer.{Order, Number, Verdict, Says}
use Rattle.pcap_core.specs.Bytes.{cow_bytes, IsBorrowed, IsOwned}
use Rattle.pcap_core.specs.Faults.{Fault, Invalid}
use Rattle.pcap_core.specs.declared.rules.Rule.TheVariants.{EnhancedTooShort}
use Rattle.pcap_blocks.specs.declared.packet.PacketBlock.{PacketBlock}
use Rattle.pcap_core.specs.Padded.{Behind}
use Rattle.pcap_options.specs.Growth.{HoldsAfter}
use Rattle.pcap_blocks.specs.StoredPacket.{Stored, StoredText, StoredFault, StoredMayGrow}
use Rattle.pcap_options.specs.PacketOption.{packet_kind, packet_entry, PacketOptionIsBorrowed, PacketOptionIsOwned}

-- A packet block is an interface number, a drop count and a stored packet, wherever its bytes are in memory.
pub record PacketBody : Type 0 where
  pub interface_id : ℕ
  pub drop_count : ℕ
  pub packet : Stored

-- `s` is the body of a packet block and then `rest`: its interface number, its drop count and the stored packet.
pub record PacketBodyText (order : Order) (body : PacketBody) (s rest : List ℕ) : Type 0 where
  pub after_interface : List ℕ
  pub after_drops : List ℕ
  pub interface_is : Number order 2 body.interface_id s after_interface
  pub drops_are : Number order 2 body.drop_count after_interface after_drops
  pub packet_is : StoredText order packet_kind body.packet after_drops rest

-- The first fault of `s` as the body of a packet block, with the rules of an enhanced packet.
pub data PacketBodyFault (order : Order) (s : List ℕ) : Fault → Type 0 where
  short : length s < 20 → PacketBodyFault order s (Invalid EnhancedTooShort)
  in_packet : (fault : Fault) (after : List ℕ) → Behind 4 s after → StoredFault order packet_kind after fault → PacketBodyFault order s fault

-- PacketBodySays order s verdict: `s` read as the body of a packet block gives this verdict, the packet block or a fault.
abbrev pub PacketBodySays : Order → List ℕ → Verdict PacketBody → Type 0
PacketBodySays order s = Says (λ body rest. PacketBodyText order body s rest) (λ n. ⊥) (PacketBodyFault order s)

-- Reading a packet block may allocate only if the packet has an option.
abbrev pub PacketBodyMayGrow : Order → List ℕ → Type 0
PacketBodyMayGrow order = HoldsAfter 4 (StoredMayGrow order packet_kind)

-- The packet block of a block in the code.
abbrev pub packet_of : PacketBlock → PacketBody
packet_of block = record {
  interface_id = block.interface_id;
  drop_count = block.drop_count;
  packet = record {
    timestamp = block.timestamp;
    captured_len = block.captured_len;
    original_len = block.original_len;
    bytes = cow_bytes block.data_;
    options = map packet_entry block.options.items;
  };
}

-- The packet's bytes and all strings and bytes of its options are borrowed.
pub record PacketIsBorrowed (block : PacketBlock) : Type 0 where
  pub bytes : IsBorrowed block.data_
  pub options : All PacketOptionIsBorrowed block.options.items

-- The packet's bytes and all strings and bytes of its options are owned.
pub record PacketIsOwned (block : PacketBlock) : Type 0 where
  pub bytes : IsOwned block.data_
  pub options : All PacketOptionIsOwned block.options.items

-- Making a packet block owned takes no memory: its bytes are owned, and it has no options.
pub record PacketNeedsNoMemory (block : PacketBlock) : Type 0 where
  pub bytes : IsOwned block.data_
  pub options : block.options.items ≡ []
