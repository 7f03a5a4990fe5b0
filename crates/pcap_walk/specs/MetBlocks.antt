-- Blocks that a walk meets.
use Rattle.std.specs.Prelude.{◌≡◌, ◌+◌, ℕ, List, length}
use Rattle.pcap_core.specs.declared.common.Endianness.{Endianness}
use Rattle.pcap_blocks.specs.declared.block_type.BlockType.TheVariants as types
use Rattle.pcap_ng.specs.declared.pcapng.block_header.BlockHeader.{BlockHeader}
use Rattle.pcap_ng.specs.Blocks.{Item}
use Rattle.pcap_ng.specs.Enhanced.{EnhancedFrame}
use Rattle.pcap_ng.specs.Lent.{held_item}
use Rattle.pcap_ng.specs.State.{State}

-- The item of the block with this header and text, after which this state is in force.
abbrev pub met_block : State → BlockHeader → List ℕ → Item
met_block after header text = held_item after text header

-- EnhancedInFront e s header size: s begins with an enhanced packet's block of this size, and this is its header.
pub record EnhancedInFront (e : Endianness) (s : List ℕ) (header : BlockHeader) (size : ℕ) : Type 0 where
  pub body : List ℕ
  pub rest : List ℕ
  pub frame : EnhancedFrame e body s rest
  pub long : length s ≡ size + length rest
  pub type_is : header.type_ ≡ types.EnhancedPacket
  pub len_is : header.initial_len ≡ size
  pub order_is : header.endianness ≡ e
