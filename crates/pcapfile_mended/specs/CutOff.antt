-- Packet blocks whose end is cut off, although all data of their packet are there.
use Rattle.std.specs.Prelude.{◌≡◌, ◌<◌, ◌+◌, ◌-◌, ◌^◌, ℕ, List, [], ◌++◌, length, take, drop, replicate, min, Bool, true, false, Option, Some, None}
use Rattle.pcap_core.specs.declared.common.Endianness.{Endianness}
use Rattle.pcap_core.specs.Answer.{Order, Number, number_in}
use Rattle.pcap_core.specs.Padded.{up_to_4}
use Rattle.pcap_blocks.specs.declared.block_type.BlockType.{BlockType}
use Rattle.pcap_blocks.specs.declared.block_type.BlockType.TheVariants as types
use Rattle.pcap_blocks.specs.BlockType.{block_type}
use Rattle.pcap_written.specs.Raw.{Raw, raw_text}
use Rattle.pcap_tolerant_blocks.specs.declared.sound.OptionsOf.{OptionsOf}
use Rattle.pcap_tolerant_blocks.specs.SoundOptions.{SoundOptions, kind_of}
use Rattle.pcapfile_mended.specs.Mended.{options_of}

-- The length of a packet block's body up to the end of the packet's data. A simple packet has as many bytes as its original length, and
-- `most` at most; any other states how many it has.
abbrev pub data_end : Order → ℕ → BlockType → List ℕ → Option ℕ
data_end order most types.EnhancedPacket s = Some (20 + order 4 (take 4 (drop 12 s)))
data_end order most types.Packet s = Some (20 + order 4 (take 4 (drop 12 s)))
data_end order most types.SimplePacket s = Some (4 + min (order 4 (take 4 s)) most)
data_end order most _ s = None

-- The body is of no packet, or it has fewer bytes than the packet's data need.
abbrev pub LacksData : Order → ℕ → BlockType → List ℕ → Type 0
LacksData order most type s = (n : ℕ) → data_end order most type s ≡ Some n → length s < n

-- `s` is the beginning of a packet block: its type, its length, its body up to the end of the packet's data, which is `front`, and then
-- `rest`. The length has room for padding, for options of `room` bytes and for the block's end, and `s` has fewer bytes.
pub record CutBlock (order : Order) (most : ℕ) (s : List ℕ) (type : BlockType) (front rest : List ℕ) (room : ℕ) : Type 0 where
  pub number : ℕ
  pub stated : ℕ
  pub after_number : List ℕ
  pub number_is : Number order 4 number s after_number
  pub stated_is : Number order 4 stated after_number (front ++ rest)
  pub short : stated < 2 ^ 32
  pub type_is : type ≡ block_type number
  pub front_is : data_end order most type (front ++ rest) ≡ Some (length front)
  pub room_is : (12 + up_to_4 (length front)) + room ≡ stated
  pub cut_off : length s < stated

-- `s` is no such beginning of a packet block.
abbrev pub IsNotCut : Order → ℕ → List ℕ → Type 0
IsNotCut order most s = (type : BlockType) (front rest : List ℕ) (room : ℕ) → CutBlock order most s type front rest room → ⊥

-- `s` is such a beginning of a packet block.
abbrev pub IsCut : Order → ℕ → List ℕ → Type 0
IsCut order most s = (type : BlockType) × (front : List ℕ) × (rest : List ℕ) × (room : ℕ) × CutBlock order most s type front rest room

-- The number of padding bytes after this many bytes.
abbrev pub padding_after : ℕ → ℕ
padding_after n = up_to_4 n - n

-- The bytes of options behind the padding after `front`: `room` bytes, or as many as there are.
abbrev pub options_behind : List ℕ → List ℕ → ℕ → List ℕ
options_behind front rest room = take room (drop (padding_after (length front)) rest)

-- `kept` is the options in `s` whose bytes are all there and whose values break no rule; none if the block has no options.
abbrev pub KeepsOptions : Endianness → Option OptionsOf → List ℕ → List ℕ → Type 0
KeepsOptions order None s kept = kept ≡ []
KeepsOptions order (Some of) s kept = SoundOptions (number_in order) (kind_of of) s kept

-- The whole block: the same type and body up to the end of the data, padding of zeros, and then these options.
abbrev pub whole_block : Endianness → BlockType → List ℕ → List ℕ → Raw
whole_block order type front kept = record {
  type_ = type;
  endianness = order;
  body = (front ++ replicate (padding_after (length front)) 0) ++ kept;
}

-- `text` is the whole block of which `s` is the beginning.
pub record Completes (order : Endianness) (most : ℕ) (s text : List ℕ) : Type 0 where
  pub type : BlockType
  pub front : List ℕ
  pub rest : List ℕ
  pub room : ℕ
  pub kept : List ℕ
  pub cut : CutBlock (number_in order) most s type front rest room
  pub keeps : KeepsOptions order (options_of type) (options_behind front rest room) kept
  pub text_is : text ≡ raw_text (whole_block order type front kept)

-- The flag says whether `s` is the beginning of such a block, and then `text` is the whole block.
abbrev pub IsCompleted : Endianness → ℕ → List ℕ → List ℕ → Bool → Type 0
IsCompleted order most s text true = Completes order most s text
IsCompleted order most s text false = IsNotCut (number_in order) most s
