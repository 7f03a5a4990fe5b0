-- The section and interfaces that a list of blocks leaves in force, determined by their bodies alone ('Section Header Block',
-- 'Interface Description Block').
use Rattle.std.specs.Prelude.{◌≡◌, ℕ, List, ◌∷◌, ◌++◌, All, Bool, true, false, filter}
use Rattle.std.specs.List.{AllZip}
use Rattle.pcap_core.specs.Answer.{whole}
use Rattle.pcap_blocks.specs.declared.block_type.BlockType.{BlockType}
use Rattle.pcap_blocks.specs.declared.block_type.BlockType.TheVariants as types
use Rattle.pcap_blocks.specs.SectionHeader.{Section}
use Rattle.pcap_blocks.specs.InterfaceDescription.{Interface}
use Rattle.pcap_blocks.specs.ParsedBlock.{SectionBody, InterfaceBody}
use Rattle.pcap_ng.specs.Bodies.{SaysOfBody}
use Rattle.pcap_ng.specs.Frames.{Framed}
use Rattle.pcap_ng.specs.State.{State, opening, within}

-- Blocks of this type are section headers.
abbrev pub is_section : BlockType → Bool
is_section types.SectionHeader = true
is_section _ = false

-- Blocks of this type are interface descriptions.
abbrev pub is_interface : BlockType → Bool
is_interface types.InterfaceDescription = true
is_interface _ = false

-- The body of the block is this interface.
abbrev pub IsInterfaceIn : Framed → Interface → Type 0
IsInterfaceIn b interface = (rest : List ℕ) × SaysOfBody b (whole (InterfaceBody interface) rest)

-- LeavesInForce blocks section interfaces: the section is the body of the last section header among these blocks, and the
-- interfaces are the bodies of the interface descriptions after it, in order.
pub record LeavesInForce (blocks : List Framed) (section : Section) (interfaces : List Interface) : Type 0 where
  pub before : List Framed
  pub header : Framed
  pub after : List Framed
  pub rest : List ℕ
  pub split : blocks ≡ before ++ header ∷ after
  pub is_header : is_section header.type_ ≡ true
  pub section_is : SaysOfBody header (whole (SectionBody section) rest)
  pub is_last : All (λ b. is_section b.type_ ≡ false) after
  pub interfaces_are : AllZip IsInterfaceIn (filter (λ b. is_interface b.type_) after) interfaces

-- These blocks leave this state in force.
abbrev pub Leaves : List Framed → State → Type 0
Leaves blocks opening = ⊥
Leaves blocks (within section interfaces) = LeavesInForce blocks section interfaces
