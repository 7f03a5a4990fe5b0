-- Sequences of blocks, some from values and some from bytes, as they are written.
use Rattle.std.specs.Prelude.{◌≡◌, ℕ, List, [], ◌∷◌, ◌++◌, Ok}
use Rattle.pcap_blocks.specs.declared.block_type.BlockType.{BlockType}
use Rattle.pcap_blocks.specs.ParsedBlock.{Body}
use Rattle.pcap_written.specs.declared.place.Place.{Place}
use Rattle.pcap_written.specs.Bodies.{type_of}
use Rattle.pcap_written.specs.Capture.{IsWritten}
use Rattle.pcap_written.specs.Raw.{Raw, TellsRaw, raw_text}

-- A block to write: one from a value, or one whose body is bytes.
pub data Written : Type 0 where
  of_value : Body → Written
  of_bytes : Raw → Written

-- The type of a block to write.
abbrev pub type_written : Written → BlockType
type_written (of_value body) = type_of body
type_written (of_bytes raw) = raw.type_

-- The bytes are the text of this block at this place, and `behind` is the place after it.
abbrev pub GoesOut : Place → Written → List ℕ → Place → Type 0
GoesOut at (of_value body) bytes behind = IsWritten at body bytes behind
GoesOut at (of_bytes raw) bytes behind = TellsRaw at raw (Ok behind) × (bytes ≡ raw_text raw)

-- The bytes are the texts of these blocks, the first at this place, and each at the place after the one before it.
abbrev pub GoOut : Place → List Written → List ℕ → Place → Type 0
GoOut at [] bytes end = (bytes ≡ []) × (end ≡ at)
GoOut at (block ∷ blocks) bytes end =
    (behind : Place) × (text : List ℕ) × (more : List ℕ) × GoesOut at block text behind × (bytes ≡ text ++ more) × GoOut behind blocks more end
