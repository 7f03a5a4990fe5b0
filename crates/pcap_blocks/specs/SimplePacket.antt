-- The body of a simple packet ('Simple Packet Block').
use Rattle.std.specs.Prelude.{◌≡◌, ◌<◌, ℕ, List, [], length}
use Rattle.pcap_core.specs.Answer.{Order, Number, Verdict, Says}
use Rattle.pcap_core.specs.Bytes.{cow_bytes, IsBorrowed, IsOwned}
use Rattle.pcap_core.specs.Faults.{Fault, Invalid}
use Rattle.pcap_core.specs.declared.rules.Rule.TheVariants.{SimpleTooShort}
use Rattle.pcap_blocks.specs.declared.simple_packet.SimplePacketBlock.{SimplePacketBlock}

-- A simple packet, wherever its bytes are in memory.
pub record Simple : Type 0 where
  pub original_len : ℕ
  pub bytes : List ℕ

-- `s` is the original length and the packet's bytes, and nothing follows them.
pub record SimpleText (order : Order) (simple : Simple) (s rest : List ℕ) : Type 0 where
  pub original_is : Number order 4 simple.original_len s simple.bytes
  pub nothing_left : rest ≡ []

-- The fault of `s` as the body of a simple packet: too few bytes.
pub data SimpleFault (s : List ℕ) : Fault → Type 0 where
  short : length s < 4 → SimpleFault s (Invalid SimpleTooShort)

-- SimpleSays order s verdict: `s` read as the body of a simple packet gives this verdict, the packet or a fault.
abbrev pub SimpleSays : Order → List ℕ → Verdict Simple → Type 0
SimpleSays order s = Says (λ simple rest. SimpleText order simple s rest) (λ n. ⊥) (SimpleFault s)

-- The simple packet of a block in the code.
abbrev pub simple_of : SimplePacketBlock → Simple
simple_of block = record { original_len = block.original_len; bytes = cow_bytes block.data_ }

-- The bytes of a simple packet are borrowed.
abbrev pub SimpleIsBorrowed : SimplePacketBlock → Type 0
SimpleIsBorrowed block = IsBorrowed block.data_

-- The bytes of a simple packet are owned.
abbrev pub SimpleIsOwned : SimplePacketBlock → Type 0
SimpleIsOwned block = IsOwned block.data_
