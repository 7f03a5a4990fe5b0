-- Blocks in their frames ('General Block Structure').
use Rattle.std.specs.Prelude.{◌≡◌, ◌≢◌, ◌<◌, ◌≤◌, ◌+◌, ◌%◌, ◌==◌, ◌⊎◌, if◌then◌else◌, ℕ, List, ◌++◌, length, Option, Some, None}
use Rattle.byteorder.specs.Endian.{big_number}
use Rattle.pcap_core.specs.declared.common.Endianness.{Endianness}
use Rattle.pcap_core.specs.declared.rules.Rule.{Rule}
use Rattle.pcap_core.specs.declared.rules.Rule.TheVariants.{SectionMagic, BlockUnaligned, BlockTooShort, BlockLengthsDiffer}
use Rattle.pcap_core.specs.Answer.{Number, number_in, Verdict, Says}
use Rattle.pcap_core.specs.Bytes.{cow_bytes}
use Rattle.pcap_core.specs.Faults.{Fault, Invalid}
use Rattle.pcap_items.specs.Format.{Format}
use Rattle.pcap_core.specs.Padded.{Behind}
use Rattle.pcap_blocks.specs.declared.block_type.BlockType.{BlockType}
use Rattle.pcap_blocks.specs.SectionHeader.{magic_order}
use Rattle.pcap_blocks.specs.BlockType.{block_type}
use Rattle.pcap_ng.specs.declared.pcapng.block.Block.{Block}

-- A block in its frame is its type, its length before and after the body, the body, and the byte order of its numbers.
pub record Framed : Type 0 where
  pub type_ : BlockType
  pub initial_len : ℕ
  pub body : List ℕ
  pub trailer_len : ℕ
  pub endianness : Endianness

-- A block of the code, as a block in its frame.
abbrev pub framed_of : Block → Framed
framed_of block = record {
  type_ = block.type_;
  initial_len = block.initial_len;
  body = cow_bytes block.body;
  trailer_len = block.trailer_len;
  endianness = block.endianness;
}

-- The byte order of a block with this type number. A section header names its own by the magic number after its length; any other
-- block has the order of its section ('Section Header Block').
unfoldable pub own_order : Endianness → ℕ → ℕ → Option Endianness
own_order e number magic = if number == 0x0A0D0D0A then magic_order magic else Some e

-- FrameHeadText e number own len s after: s is a block's type number in the section's order e, its length in the block's own
-- order, and `after`. A section header names its order by the first number of `after` ('General Block Structure').
pub record FrameHeadText (e : Endianness) (number : ℕ) (own : Endianness) (len : ℕ) (s after : List ℕ) : Type 0 where
  pub after_number : List ℕ
  pub more : List ℕ
  pub magic : ℕ
  pub number_is : Number (number_in e) 4 number s after_number
  pub len_is : Number (number_in own) 4 len after_number after
  pub magic_is : Number big_number 4 magic after more
  pub own_is : own_order e number magic ≡ Some own

-- The length of a block is a multiple of 4, and at least the 12 bytes of the fields around the body.
abbrev pub IsGoodLength : ℕ → Type 0
IsGoodLength len = (len % 4 ≡ 0) × (12 ≤ len)

-- NoOrder e s: s is a section header's type number, a length, and a magic number that names no byte order.
pub record NoOrder (e : Endianness) (s : List ℕ) : Type 0 where
  pub number : ℕ
  pub magic : ℕ
  pub after_number : List ℕ
  pub after : List ℕ
  pub more : List ℕ
  pub number_is : Number (number_in e) 4 number s after_number
  pub len_is : Behind 4 after_number after
  pub magic_is : Number big_number 4 magic after more
  pub none : own_order e number magic ≡ None

-- The first rule that a head breaks.
pub data BreaksHead (e : Endianness) (s : List ℕ) : Rule → Type 0 where
  no_order : NoOrder e s → BreaksHead e s SectionMagic
  unaligned : (number len : ℕ) (own : Endianness) (after : List ℕ) → FrameHeadText e number own len s after → len % 4 ≢ 0 → BreaksHead e s BlockUnaligned
  too_short : (number len : ℕ) (own : Endianness) (after : List ℕ)
      → FrameHeadText e number own len s after → len % 4 ≡ 0 → len < 12 → BreaksHead e s BlockTooShort

-- FrameTail own len body trailer s rest: s is the body of a block of this length, then the trailing length, then rest.
pub record FrameTail (own : Endianness) (len : ℕ) (body : List ℕ) (trailer : ℕ) (s rest : List ℕ) : Type 0 where
  pub after_body : List ℕ
  pub body_is : s ≡ body ++ after_body
  pub length_is : len ≡ length body + 12
  pub trailer_is : Number (number_in own) 4 trailer after_body rest

-- FrameText e b s rest: s is the block b (its head, its body, and its length again), followed by rest.
pub record FrameText (e : Endianness) (b : Framed) (s rest : List ℕ) : Type 0 where
  pub number : ℕ
  pub after : List ℕ
  pub head : FrameHeadText e number b.endianness b.initial_len s after
  pub type_is : b.type_ ≡ block_type number
  pub aligned : b.initial_len % 4 ≡ 0
  pub tail : FrameTail b.endianness b.initial_len b.body b.trailer_len after rest
  pub same : b.trailer_len ≡ b.initial_len

-- LacksRest e s n: n bytes are missing from the length in a good head.
pub record LacksRest (e : Endianness) (s : List ℕ) (n : ℕ) : Type 0 where
  pub number : ℕ
  pub len : ℕ
  pub own : Endianness
  pub after : List ℕ
  pub head : FrameHeadText e number own len s after
  pub good : IsGoodLength len
  pub some : 0 < n
  pub missing : length s + n ≡ len

-- FrameLacks e s n: n bytes are missing from a head, or from the length in a good head.
abbrev pub FrameLacks : Endianness → List ℕ → ℕ → Type 0
FrameLacks e s n = ((0 < n) × (length s + n ≡ 12)) ⊎ LacksRest e s n

-- The length after the body differs from the length before it.
pub record LengthsDiffer (e : Endianness) (s : List ℕ) : Type 0 where
  pub number : ℕ
  pub len : ℕ
  pub trailer : ℕ
  pub own : Endianness
  pub body : List ℕ
  pub after : List ℕ
  pub rest : List ℕ
  pub head : FrameHeadText e number own len s after
  pub aligned : len % 4 ≡ 0
  pub tail : FrameTail own len body trailer after rest
  pub differ : trailer ≢ len

-- The first fault of a frame.
pub data FrameFault (e : Endianness) (s : List ℕ) : Fault → Type 0 where
  in_head : (rule : Rule) → BreaksHead e s rule → FrameFault e s (Invalid rule)
  unequal : LengthsDiffer e s → FrameFault e s (Invalid BlockLengthsDiffer)

-- The verdict of bytes as a block in its frame.
abbrev pub FrameSays : Endianness → List ℕ → Verdict Framed → Type 0
FrameSays e s = Says (λ b rest. FrameText e b s rest) (FrameLacks e s) (FrameFault e s)

-- The format of blocks in their frames, with this byte order for blocks that are not section headers.
unfoldable pub frame_format : Format Endianness Framed
frame_format = record { says = FrameSays; goes = λ e b. e; head = λ e. 12 }
