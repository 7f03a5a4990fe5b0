-- Enhanced packets that are read in place.
use Rattle.std.specs.Prelude.{◌≡◌, ◌⊎◌, ℕ, List, [], length}
use Rattle.pcap_core.specs.declared.common.Endianness.{Endianness}
use Rattle.pcap_core.specs.Answer.{Order, Number, number_in}
use Rattle.pcap_core.specs.Faults.{Fault, Invalid}
use Rattle.pcap_core.specs.declared.rules.Rule.TheVariants.{EnhancedCut, EnhancedTooShort}
use Rattle.pcap_core.specs.Padded.{Padded}
use Rattle.pcap_blocks.specs.declared.block_type.BlockType.TheVariants as types
use Rattle.pcap_blocks.specs.EnhancedPacket.{Enhanced, EnhancedFault, EnhancedMayGrow, EnhancedText}
use Rattle.pcap_blocks.specs.StoredPacket.{StoredHead}
use Rattle.pcap_options.specs.Values.{Entry}
use Rattle.pcap_ng.specs.Frames.{Framed, FrameText}
use Rattle.pcap_ng.specs.declared.pcapng.enhanced.EnhancedNumbers.{EnhancedNumbers}
use Rattle.pcap_ng.specs.declared.pcapng.enhanced.EnhancedParts.{EnhancedParts}

-- The block of an enhanced packet with this body.
abbrev pub enhanced_frame : Endianness → ℕ → List ℕ → Framed
enhanced_frame e len body = record { type_ = types.EnhancedPacket; initial_len = len; body = body; trailer_len = len; endianness = e }

-- EnhancedFrame e body s rest: s is an enhanced packet's block with this body, followed by rest.
abbrev pub EnhancedFrame : Endianness → List ℕ → List ℕ → List ℕ → Type 0
EnhancedFrame e body s rest = (len : ℕ) × FrameText e (enhanced_frame e len body) s rest

-- NoFrame e s: no whole enhanced packet's block begins s.
abbrev pub NoFrame : Endianness → List ℕ → Type 0
NoFrame e s = (body rest : List ℕ) → EnhancedFrame e body s rest → ⊥

-- The enhanced packet with these parts and options.
abbrev pub enhanced_with : EnhancedParts → List Entry → Enhanced
enhanced_with parts options = record {
  interface_id = parts.interface;
  packet = record { timestamp = parts.units; captured_len = length parts.bytes.now; original_len = parts.original; bytes = parts.bytes.now; options = options };
}

-- A body is an enhanced packet with these parts, whatever its options are.
pub record PartsText (order : Order) (parts : EnhancedParts) (body : List ℕ) : Type 0 where
  pub after_interface : List ℕ
  pub after_head : List ℕ
  pub interface_is : Number order 4 parts.interface body after_interface
  pub head : StoredHead order (enhanced_with parts []).packet after_interface after_head
  pub padded : Padded parts.bytes.now after_head parts.options.now

-- A body has a fault as the body of an enhanced packet.
abbrev pub IsRefused : Order → List ℕ → Type 0
IsRefused order body = (fault : Fault) × EnhancedFault order body fault

-- A body is too short for its numbers, or for the stored bytes.
abbrev pub HasNoRoom : Order → List ℕ → Type 0
HasNoRoom order body = EnhancedFault order body (Invalid EnhancedTooShort) ⊎ EnhancedFault order body (Invalid EnhancedCut)

-- A body has an option, for which memory may run out, or it has a fault.
abbrev pub MayBeRefused : Order → List ℕ → Type 0
MayBeRefused order body = EnhancedMayGrow order body ⊎ IsRefused order body

-- These are the numbers of an enhanced packet.
pub record Tells (enhanced : Enhanced) (packet : EnhancedNumbers) : Type 0 where
  pub interface_is : packet.interface ≡ enhanced.interface_id
  pub units_are : packet.units ≡ enhanced.packet.timestamp
  pub stored_is : packet.stored ≡ length enhanced.packet.bytes
  pub original_is : packet.original ≡ enhanced.packet.original_len

-- A body is an enhanced packet with these numbers.
abbrev pub BodyTells : Order → List ℕ → EnhancedNumbers → Type 0
BodyTells order body packet = (enhanced : Enhanced) × (after : List ℕ) × EnhancedText order enhanced body after × Tells enhanced packet

-- PacketText e packet s rest: s is the block of an enhanced packet with these numbers, followed by rest.
pub record PacketText (e : Endianness) (packet : EnhancedNumbers) (s rest : List ℕ) : Type 0 where
  pub body : List ℕ
  pub frame : EnhancedFrame e body s rest
  pub tells : BodyTells (number_in e) body packet

-- NonePlain e s: if a whole enhanced packet's block begins s, its body has an option, for which memory may run out, or a fault.
abbrev pub NonePlain : Endianness → List ℕ → Type 0
NonePlain e s = (body rest : List ℕ) → EnhancedFrame e body s rest → MayBeRefused (number_in e) body
