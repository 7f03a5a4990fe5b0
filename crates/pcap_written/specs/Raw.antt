-- Blocks whose bodies are bytes, which are written unchanged ('General Block Structure').
use Rattle.std.specs.Prelude.{◌≡◌, ◌≢◌, ◌≤◌, ◌<◌, ◌+◌, ◌%◌, ◌^◌, ◌⊎◌, ℕ, List, length, take, true, false, Option, Some, None, Result, Ok, Err}
use Rattle.std.specs.Io.KnownBytes.{Appends, Keeps}
use Rattle.byteorder.specs.Endian.{big_number}
use Rattle.pcap_core.specs.declared.common.Endianness.{Endianness}
use Rattle.pcap_core.specs.declared.errors.PcapError.{PcapError}
use Rattle.pcap_core.specs.declared.errors.PcapError.TheVariants as errors
use Rattle.pcap_core.specs.declared.rules.Rule.TheVariants.{BlockUnaligned}
use Rattle.pcap_core.specs.Codec.{number_bytes}
use Rattle.pcap_items.specs.Writing.{AppendsPart}
use Rattle.pcap_blocks.specs.declared.block_type.BlockType.{BlockType}
use Rattle.pcap_blocks.specs.declared.block_type.BlockType.TheVariants as types
use Rattle.pcap_blocks.specs.BlockType.{block_type, type_number}
use Rattle.pcap_written.specs.declared.block.BlockHead.{BlockHead}
use Rattle.pcap_written.specs.declared.place.Place.{Place}
use Rattle.pcap_written.specs.declared.raw.RawBlock.{RawBlock}
use Rattle.pcap_written.specs.declared.unwritable.Unwritable.{Unwritable}
use Rattle.pcap_written.specs.declared.unwritable.Unwritable.TheVariants as flaws
use Rattle.pcap_written.specs.declared.writer.PcapNgWriter.{PcapNgWriter}
use Rattle.pcap_written.specs.Bodies.{block_text}
use Rattle.pcap_written.specs.Flaws.{flaw_message}
use Rattle.pcap_written.specs.Writing.{IsKept, IsPlaced, PlaceFlaw, TellsPlace, has_failed, place_of, stream_of}

-- A block whose body is bytes: its type, its byte order, and these bytes.
pub record Raw : Type 0 where
  pub type_ : BlockType
  pub endianness : Endianness
  pub body : List ℕ

-- The raw block that a program's value holds.
abbrev pub raw_of : RawBlock → Raw
raw_of block = record { type_ = block.type_; endianness = block.endianness; body = block.body.now }

-- The magic number of a section, which is at the beginning of its body ('Section Header Block').
abbrev pub magic_at : BlockType → List ℕ → Option ℕ
magic_at types.SectionHeader body = Some (big_number 4 (take 4 body))
magic_at _ body = None

-- The type and magic number of a raw block. An interface that its body refers to is not looked at.
abbrev pub raw_head : Raw → BlockHead
raw_head raw = record { type_ = raw.type_; magic = magic_at raw.type_ raw.body; interface_id = None }

-- The raw block can be written: its type number fits four bytes and has no other name, and its length is a multiple of 4 that fits four
-- bytes.
pub record IsFitRaw (raw : Raw) : Type 0 where
  pub number : type_number raw.type_ < 2 ^ 32
  pub named : block_type (type_number raw.type_) ≡ raw.type_
  pub aligned : length raw.body % 4 ≡ 0
  pub short : length raw.body + 12 < 2 ^ 32

-- The bytes of a raw block, in its own byte order.
abbrev pub raw_text : Raw → List ℕ
raw_text raw = block_text (number_bytes raw.endianness) (type_number raw.type_) raw.body

-- The raw block can't be written at this place, for this reason.
abbrev pub RawFlaw : Place → Raw → Unwritable → Type 0
RawFlaw at raw flaws.TypeMisnamed = block_type (type_number raw.type_) ≢ raw.type_
RawFlaw at raw flaws.BlockTooLong = 2 ^ 32 ≤ length raw.body + 12
RawFlaw at raw flaws.OrderDiffers = (order : Endianness) × IsPlaced at (raw_head raw) order × (order ≢ raw.endianness)
RawFlaw at raw (flaws.Breaks rule) = ((rule ≡ BlockUnaligned) × (length raw.body % 4 ≢ 0)) ⊎ PlaceFlaw at (raw_head raw) (flaws.Breaks rule)
RawFlaw at raw flaw = PlaceFlaw at (raw_head raw) flaw

-- The place after a raw block that can be written here in its own byte order, or the reason why it can't be written.
abbrev pub TellsRaw : Place → Raw → Result Place Unwritable → Type 0
TellsRaw at raw (Ok behind) = IsFitRaw raw × TellsPlace at (raw_head raw) (Ok behind) × (behind.endianness ≡ raw.endianness)
TellsRaw at raw (Err flaw) = RawFlaw at raw flaw

-- The result of writing a raw block if no earlier write failed. If the block can't be written, or memory ran out, nothing is written.
-- Else it was written whole, or a write failed after a beginning of it.
abbrev pub WritesRawGood : {W : Type 0} → (W → Option (List ℕ)) → PcapNgWriter W → PcapNgWriter W → Raw → Result (Unit {0}) PcapError → Type 0
WritesRawGood contents old new raw (Err (errors.InvalidField message)) =
    IsKept contents old new × ((flaw : Unwritable) × (message.now ≡ flaw_message flaw) × RawFlaw (place_of old) raw flaw)
WritesRawGood contents old new raw (Err (errors.OutOfMemory e)) = IsKept contents old new
WritesRawGood contents old new raw (Err (errors.IoError e)) =
    (has_failed new ≡ true) × (place_of new ≡ place_of old) × IsFitRaw raw × IsPlaced (place_of old) (raw_head raw) raw.endianness
    × AppendsPart (contents (stream_of old)) (contents (stream_of new)) (raw_text raw)
WritesRawGood contents old new raw (Err _) = ⊥
WritesRawGood contents old new raw (Ok u) =
    (has_failed new ≡ false) × TellsRaw (place_of old) raw (Ok (place_of new)) × Appends (contents (stream_of old)) (contents (stream_of new)) (raw_text raw)

-- The result of writing a raw block: an earlier write failed, and nothing is written, or it is as above.
abbrev pub WritesRaw : {W : Type 0} → (W → Option (List ℕ)) → PcapNgWriter W → PcapNgWriter W → Raw → Result (Unit {0}) PcapError → Type 0
WritesRaw contents old new raw (Err errors.WriterFailed) =
    (has_failed old ≡ true) × (has_failed new ≡ true) × (place_of new ≡ place_of old) × Keeps (contents (stream_of old)) (contents (stream_of new))
WritesRaw contents old new raw result = (has_failed old ≡ false) × WritesRawGood contents old new raw result
