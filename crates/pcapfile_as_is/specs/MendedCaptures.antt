-- This file defines the capture that consists of the mended blocks of another one.
use Rattle.std.specs.Prelude.{◌≡◌, ℕ, List, [], map, flat_map, filter_map, Option, Some, None}
use Rattle.pcap_items.specs.Format.{Front}
use Rattle.pcap_ng.specs.Blocks as strict_blocks
use Rattle.pcap_ng.specs.RawBlocks.{raw_in}
use Rattle.pcap_ng.specs.State as strict
use Rattle.pcap_tolerant_captures.specs.Blocks.{Item}
use Rattle.pcap_written.specs.Raw.{Raw}
use Rattle.pcapfile_mended.specs.Mended.{Becomes, stays, has_body, is_left_out, Mends, mended_text, with_body}

-- The block that is mended.
abbrev pub block_of : Item × Becomes → Item
block_of mended = mended.0

-- IsMendedSo: the block becomes this.
abbrev pub IsMendedSo : Item × Becomes → Type 0
IsMendedSo mended = Mends (raw_in mended.0.block) mended.1

-- The bytes of what the block becomes.
abbrev pub text_of : Item × Becomes → List ℕ
text_of mended = mended_text (raw_in mended.0.block) mended.1

-- What is left of a block, by what it becomes: the block itself, the block with another body, or none.
abbrev pub left_of : Raw → Becomes → Option Raw
left_of raw stays = Some raw
left_of raw (has_body s) = Some (with_body raw s)
left_of raw is_left_out = None

-- The block of a capture that is left after mending, if any.
abbrev pub block_left : Item × Becomes → Option Raw
block_left mended = left_of (raw_in mended.0.block) mended.1

-- The type, the byte order and the body of a block that is read.
abbrev pub raw_read : strict_blocks.Item → Raw
raw_read item = raw_in item.block

-- AreRead: the bytes of mended blocks, in order, are a strict capture of exactly the blocks that are left, and nothing follows them.
abbrev pub AreRead : List (Item × Becomes) → Type 0
AreRead mended =
    (items : List strict_blocks.Item) × Front strict_blocks.block_format strict.opening items (flat_map text_of mended) []
    × (map raw_read items ≡ filter_map block_left mended)
