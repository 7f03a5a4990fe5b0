-- The first place from which blocks follow each other again after corrupt bytes.
use Rattle.std.specs.Prelude.{◌≡◌, ◌≤◌, ◌⊎◌, ℕ, List, length, Option}
use Rattle.pcap_core.specs.declared.common.Endianness.{Endianness}
use Rattle.pcap_core.specs.declared.common.Endianness.TheVariants as orders
use Rattle.pcap_items.specs.Format.{Format}
use Rattle.pcap_blocks.specs.declared.block_type.BlockType.TheVariants as types
use Rattle.pcap_ng.specs.Frames.{Framed, FrameText, FrameSays}
use Rattle.pcap_tolerant.specs.Resync.{FirstPlace, Row}
use Rattle.pcap_tolerant_captures.specs.State.{State}
use Rattle.pcap_tolerant_captures.specs.Blocks.{Item, AsIsText}

-- Blocks in their frames, each in the byte order of the block before it, except that a section header has the order that it names.
unfoldable pub frames_in_a_row : Format Endianness Framed
frames_in_a_row = record { says = FrameSays; goes = λ e b. b.endianness; head = λ e. 12 }

-- A section header has the sixteen bytes before its options. (A shorter one is refused.)
abbrev pub HasRoom : Framed → Type 0
HasRoom b = b.type_ ≡ types.SectionHeader → 16 ≤ length b.body

-- `k` such blocks follow each other from the front, or fewer, at least one, to the end.
abbrev pub FrameRow : Endianness → ℕ → List ℕ → Type 0
FrameRow = Row frames_in_a_row HasRoom

-- `s` begins with a section header that has the sixteen bytes before its options.
pub record HeaderStands (e : Endianness) (s : List ℕ) : Type 0 where
  pub block : Framed
  pub rest : List ℕ
  pub frame : FrameText e block s rest
  pub is_header : block.type_ ≡ types.SectionHeader
  pub room : 16 ≤ length block.body

-- `s` begins with a section header, or with such a row of blocks.
abbrev pub BlocksStand : Endianness → ℕ → List ℕ → Type 0
BlocksStand e k s = HeaderStands e s ⊎ FrameRow e k s

-- The first place before the end from which there are such blocks, or None if there is no such place.
abbrev pub BlocksResync : Endianness → ℕ → List ℕ → Option ℕ → Type 0
BlocksResync e k = FirstPlace (BlocksStand e k)

-- The first place before the end from which there is a section header, or None if there is no such place.
abbrev pub SectionResyncs : List ℕ → Option ℕ → Type 0
SectionResyncs = FirstPlace (HeaderStands orders.Big)

-- `s` begins with a block that lenient reading returns under this state.
abbrev pub IsGiven : State → List ℕ → Type 0
IsGiven q s = (item : Item) × (rest : List ℕ) × AsIsText q item s rest
