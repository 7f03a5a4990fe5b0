-- This file defines where blocks go on after corrupt bytes.
use Rattle.std.specs.Prelude.{◌≡◌, ◌<◌, ◌+◌, ◌-◌, ◌⊎◌, ℕ, List, length, drop, Option, Some, None}
use Rattle.pcap_core.specs.declared.common.Endianness.{Endianness}
use Rattle.pcap_blocks.specs.declared.block_type.BlockType.{BlockType}
use Rattle.pcap_blocks.specs.declared.block_type.BlockType.TheVariants as types
use Rattle.pcap_ng.specs.Frames.{Framed, FrameText}
use Rattle.pcap_tolerant_captures.specs.Resync.{BlocksStand, BlocksResync}

-- The library knows a block's type.
abbrev pub IsKnown : BlockType → Type 0
IsKnown type = (number : ℕ) → type ≡ types.Unknown number → ⊥

-- `s` begins with a block of a known type.
abbrev pub BeginsKnown : Endianness → List ℕ → Type 0
BeginsKnown e s = (block : Framed) × (rest : List ℕ) × FrameText e block s rest × IsKnown block.type_

-- Blocks go on at the front of `s`, and the first of them has a known type.
abbrev pub GoesOnKnown : Endianness → List ℕ → Type 0
GoesOnKnown e s = BlocksStand e 2 s × BeginsKnown e s

-- No block of a known type goes on behind `first` and before `end`.
abbrev pub NoneInside : Endianness → List ℕ → ℕ → ℕ → Type 0
NoneInside e s first end = (place : ℕ) → first < place → place < end → GoesOnKnown e (drop place s) → ⊥

-- `found` is the first place behind `first` at which a block of a known type goes on, and more than `left` bytes follow it.
pub record IsInside (e : Endianness) (s : List ℕ) (first left found : ℕ) : Type 0 where
  pub behind : first < found
  pub inside : found + left < length s
  pub goes_on : GoesOnKnown e (drop found s)
  pub is_first : NoneInside e s first found

-- Blocks go on at `first` and at no place before. `block` is the first of them, and `rest` is behind it.
pub record FirstBlocks (e : Endianness) (s : List ℕ) (first : ℕ) : Type 0 where
  pub is_first : BlocksResync e 2 s (Some first)
  pub block : Framed
  pub rest : List ℕ
  pub frame : FrameText e block (drop first s) rest

-- Blocks go on at `found`: at the first such place, or if the block there has an unknown type, at the first place inside it of a known one.
pub record Found (e : Endianness) (s : List ℕ) (found : ℕ) : Type 0 where
  pub first : ℕ
  pub blocks : FirstBlocks e s first
  pub chosen : ((found ≡ first) × (IsKnown blocks.block.type_ ⊎ NoneInside e s first (length s - length blocks.rest)))
      ⊎ ((IsKnown blocks.block.type_ → ⊥) × IsInside e s first (length blocks.rest) found)

-- The place at which blocks go on, or None if there is no such place.
abbrev pub FindsBlocks : Endianness → List ℕ → Option ℕ → Type 0
FindsBlocks e s (Some found) = Found e s found
FindsBlocks e s None = BlocksResync e 2 s None
