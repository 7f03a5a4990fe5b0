-- Lemmas on what the totals use of bodies.
use Rattle.std.proofs.Common.{◌≡◌, ◌⊎◌, ℕ, List, Option, Some, None, Result, Ok, Err, IfErr, true, refl, inl, inr}
use Rattle.pcap_blocks.specs.declared.block_type.BlockType.{BlockType}
use Rattle.pcap_blocks.specs.declared.block_type.BlockType.TheVariants as types
use Rattle.pcap_blocks.specs.declared.enhanced_packet.EnhancedPacketBlock.{EnhancedPacketBlock}
use Rattle.pcap_blocks.specs.declared.packet.PacketBlock.{PacketBlock}
use Rattle.pcap_blocks.specs.declared.simple_packet.SimplePacketBlock.{SimplePacketBlock}
use Rattle.pcap_blocks.specs.declared.parsed_block.ParsedBlock.{ParsedBlock}
use Rattle.pcap_blocks.specs.declared.parsed_block.ParsedBlock.TheVariants as block_of
use Rattle.pcap_blocks.specs.InterfaceDescription.{Interface}
use Rattle.pcap_blocks.specs.ParsedBlock.{body_of}
use Rattle.pcapfile_info.specs.declared.others.Kind.TheVariants as kinds
use Rattle.pcapfile_info.specs.declared.seen.Seen.{Seen}
use Rattle.pcapfile_info.specs.declared.seen.Sight.{Sight}
use Rattle.pcapfile_info.specs.declared.seen.Sight.TheVariants as sights
use Rattle.pcapfile_info.specs.declared.totals.Totals.{Totals}
use Rattle.pcap_ng.specs.Frames.{Framed}
use Rattle.pcap_ng.specs.State.{is_kept}
use Rattle.pcapfile_run.specs.BlockPackets.{InBlock, packet_in}
use Rattle.pcapfile_info.specs.Sights.{IsBodySight, IsInBlockSight, IsSightOf, IsStoredSight}
use Rattle.pcapfile_info.specs.Totals.{IsFirstBy, NeedsRoom}

-- A body of any other type has no packet.
pub other_sight : (described : ℕ) (interfaces : List Interface) (parsed : ParsedBlock)
    → ((b : EnhancedPacketBlock) → parsed ≡ block_of.EnhancedPacket b → ⊥) → ((b : PacketBlock) → parsed ≡ block_of.Packet b → ⊥)
    → ((b : SimplePacketBlock) → parsed ≡ block_of.SimplePacket b → ⊥) → IsBodySight described interfaces (body_of parsed) (sights.Other kinds.Unknown)
other_sight described interfaces (block_of.SectionHeader b) no_enhanced no_packet no_simple = refl
other_sight described interfaces (block_of.InterfaceDescription b) no_enhanced no_packet no_simple = refl
other_sight described interfaces (block_of.Packet b) no_enhanced no_packet no_simple = absurd (no_packet b refl)
other_sight described interfaces (block_of.SimplePacket b) no_enhanced no_packet no_simple = absurd (no_simple b refl)
other_sight described interfaces (block_of.NameResolution b) no_enhanced no_packet no_simple = refl
other_sight described interfaces (block_of.InterfaceStatistics b) no_enhanced no_packet no_simple = refl
other_sight described interfaces (block_of.EnhancedPacket b) no_enhanced no_packet no_simple = absurd (no_enhanced b refl)
other_sight described interfaces (block_of.SystemdJournalExport b) no_enhanced no_packet no_simple = refl
other_sight described interfaces (block_of.Unknown b) no_enhanced no_packet no_simple = refl

-- A packet in a block isn't the description of an interface.
in_block_other : (described : ℕ) (interfaces : List Interface) (packet : Option InBlock) → IsInBlockSight described interfaces packet sights.Interface → ⊥
in_block_other described interfaces (Some packet) is = is
in_block_other described interfaces None is = absurd cc

stored_other : (described : ℕ) (interfaces : List Interface) (block : Framed) → IsStoredSight described interfaces block sights.Interface → ⊥
stored_other described interfaces block (inl (body, rest, says, is)) = in_block_other described interfaces (packet_in interfaces body) is
stored_other described interfaces block (inr (fault, says, is)) = absurd cc

-- The reader keeps the body of a block that describes an interface.
pub interface_kept : (type : BlockType) (described : ℕ) (interfaces : List Interface) (block : Framed) → IsSightOf type described interfaces block sights.Interface → is_kept type ≡ true
interface_kept types.SectionHeader described interfaces block is = refl
interface_kept types.InterfaceDescription described interfaces block is = refl
interface_kept types.EnhancedPacket described interfaces block is = absurd (stored_other described interfaces block is)
interface_kept types.Packet described interfaces block is = absurd (stored_other described interfaces block is)
interface_kept types.SimplePacket described interfaces block is = absurd (stored_other described interfaces block is)
interface_kept types.NameResolution described interfaces block is = absurd cc
interface_kept types.InterfaceStatistics described interfaces block is = absurd cc
interface_kept types.SystemdJournalExport described interfaces block is = absurd cc
interface_kept (types.Unknown n) described interfaces block is = absurd cc

-- A block for whose sight memory is needed is kept, or has the first packet of an interface.
pub room_named : (type : BlockType) (described : ℕ) (interfaces : List Interface) (block : Framed) (totals : Totals) (sight : Sight) → IsSightOf type described interfaces block sight → NeedsRoom totals sight
    → (is_kept type ≡ true) ⊎ ((seen : Seen) × IsSightOf type described interfaces block (sights.Packet seen) × IsFirstBy totals seen)
room_named type described interfaces block totals (sights.Packet seen) is room = inr (seen, is, room)
room_named type described interfaces block totals sights.Refused is room = absurd room
room_named type described interfaces block totals sights.Interface is room = inl (interface_kept type described interfaces block is)
room_named type described interfaces block totals sights.Section is room = absurd room
room_named type described interfaces block totals (sights.Other kind) is room = absurd room

-- A fact that always holds also holds of each error.
pub err_says : {A E : Type 0} (P : Type 0) → P → (result : Result A E) → IfErr result (λ _. P)
err_says P p (Ok x) = tt
err_says P p (Err e) = p
