-- The body of an enhanced packet ('Enhanced Packet Block').
use Rattle.std.specs.Prelude.{◌≡◌, ◌<◌, ℕ, List, [], length, map, All}
use Rattle.pcap_core.specs.Answer.{Order, Number, Verdict, Says}
use Rattle.pcap_core.specs.Bytes.{cow_bytes, IsBorrowed, IsOwned}
use Rattle.pcap_core.specs.Faults.{Fault, Invalid}
use Rattle.pcap_core.specs.declared.rules.Rule.TheVariants.{EnhancedTooShort}
use Rattle.pcap_blocks.specs.declared.enhanced_packet.EnhancedPacketBlock.{EnhancedPacketBlock}
use Rattle.pcap_core.specs.Padded.{Behind}
use Rattle.pcap_options.specs.Growth.{HoldsAfter}
use Rattle.pcap_blocks.specs.StoredPacket.{Stored, StoredText, StoredFault, StoredMayGrow}
use Rattle.pcap_options.specs.EnhancedOption.{enhanced_packet, enhanced_entry, EnhancedOptionIsBorrowed, EnhancedOptionIsOwned}

-- An enhanced packet is an interface number and a stored packet, wherever its bytes are in memory.
pub record Enhanced : Type 0 where
  pub interface_id : ℕ
  pub packet : Stored

-- `s` is the body of an enhanced packet and then `rest`: its interface number and the stored packet.
pub record EnhancedText (order : Order) (enhanced : Enhanced) (s rest : List ℕ) : Type 0 where
  pub after_interface : List ℕ
  pub interface_is : Number order 4 enhanced.interface_id s after_interface
  pub packet_is : StoredText order enhanced_packet enhanced.packet after_interface rest

-- The first fault of `s` as the body of an enhanced packet: too few bytes, or the fault of the stored packet.
pub data EnhancedFault (order : Order) (s : List ℕ) : Fault → Type 0 where
  short : length s < 20 → EnhancedFault order s (Invalid EnhancedTooShort)
  in_packet : (fault : Fault) (after : List ℕ) → Behind 4 s after → StoredFault order enhanced_packet after fault → EnhancedFault order s fault

-- EnhancedSays order s verdict: `s` read as the body of an enhanced packet gives this verdict, the packet or a fault.
abbrev pub EnhancedSays : Order → List ℕ → Verdict Enhanced → Type 0
EnhancedSays order s = Says (λ enhanced rest. EnhancedText order enhanced s rest) (λ n. ⊥) (EnhancedFault order s)

-- Reading an enhanced packet may allocate only if the packet has an option.
abbrev pub EnhancedMayGrow : Order → List ℕ → Type 0
EnhancedMayGrow order = HoldsAfter 4 (StoredMayGrow order enhanced_packet)

-- The enhanced packet of a block in the code.
abbrev pub enhanced_of : EnhancedPacketBlock → Enhanced
enhanced_of block = record {
  interface_id = block.interface_id;
  packet = record {
    timestamp = block.timestamp;
    captured_len = block.captured_len;
    original_len = block.original_len;
    bytes = cow_bytes block.data_;
    options = map enhanced_entry block.options.items;
  };
}

-- The packet's bytes and all strings and bytes of its options are borrowed.
pub record EnhancedIsBorrowed (block : EnhancedPacketBlock) : Type 0 where
  pub bytes : IsBorrowed block.data_
  pub options : All EnhancedOptionIsBorrowed block.options.items

-- The packet's bytes and all strings and bytes of its options are owned.
pub record EnhancedIsOwned (block : EnhancedPacketBlock) : Type 0 where
  pub bytes : IsOwned block.data_
  pub options : All EnhancedOptionIsOwned block.options.items

-- Making an enhanced packet owned takes no memory: its bytes are owned, and it has no options.
pub record EnhancedNeedsNoMemory (block : EnhancedPacketBlock) : Type 0 where
  pub bytes : IsOwned block.data_
  pub options : block.options.items ≡ []
