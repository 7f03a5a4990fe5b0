-- Blocks without a packet that a merge keeps ('General Block Structure').
use Rattle.std.specs.Prelude.{◌≡◌, ◌⊎◌, ◌<◌, ◌+◌, ◌^◌, ◌==◌, ◌||◌, ◌++◌, not, if◌then◌else◌, ℕ, List, [], ◌∷◌, length, take, drop, Bool, true, false, Option, None, Some, codes}
use Rattle.std.specs.List.{slice_get}
use Rattle.byteorder.specs.Endian.{little_number}
use Rattle.pcap_core.specs.declared.common.Endianness.{Endianness}
use Rattle.pcap_core.specs.declared.common.Endianness.TheVariants.{Big, Little}
use Rattle.pcap_core.specs.declared.errors.PcapError.{PcapError}
use Rattle.pcap_core.specs.Codec.{number_bytes}
use Rattle.pcap_core.specs.Errors.{IsMemory}
use Rattle.pcap_blocks.specs.declared.block_type.BlockType.{BlockType}
use Rattle.pcap_blocks.specs.declared.block_type.BlockType.TheVariants as types
use Rattle.pcap_blocks.specs.InterfaceDescription.{Interface}
use Rattle.pcap_file.specs.Placed.{is_packet}
use Rattle.pcap_file.specs.Placing.{HasMessage, Source}
use Rattle.pcap_ng.specs.Blocks.{Item}
use Rattle.pcap_ng.specs.Frames.{Framed}
use Rattle.pcap_ng.specs.State.{interfaces_at}
use Rattle.pcapfile_run.specs.Passing.{counted}
use Rattle.pcapfile_merge.specs.declared.kept.Kept.{Kept}
use Rattle.pcapfile_merge.specs.declared.left_out.LeftOut.{LeftOut}
use Rattle.pcapfile_merge.specs.LeavingOut.{options_at, with_block}
use Rattle.pcapfile_merge.specs.Little.{can_turn, little_body, raw_little}
use Rattle.pcapfile_merge.specs.Packets.{Packet}

-- Whether there is a value.
abbrev pub is_there : {X : Type 0} → Option X → Bool
is_there None = false
is_there (Some x) = true

-- The number in the first 4 bytes of a little-endian body, if it has as many.
abbrev pub first_number : List ℕ → Option ℕ
first_number body = if length (take 4 body) == 4 then Some (little_number 4 (take 4 body)) else None

-- One of these interfaces has this number.
abbrev pub is_among : List Interface → Option ℕ → Bool
is_among interfaces None = false
is_among interfaces (Some number) = is_there (slice_get interfaces number)

-- Blocks of this type are copied, and statistics are if their interface is described. A custom block of the type 0x40000BAD is not to be
-- copied into another capture ('Custom Block').
abbrev pub is_copied : List Interface → BlockType → List ℕ → Bool
is_copied interfaces types.NameResolution body = true
is_copied interfaces types.SystemdJournalExport body = true
is_copied interfaces types.InterfaceStatistics body = is_among interfaces (first_number body)
is_copied interfaces (types.Unknown number) body = not (number == 0x40000BAD)
is_copied interfaces _ body = false

-- The output is little-endian. Of big-endian sections it gets the blocks whose bodies a merge turns.
abbrev pub carried_in : Endianness → List Interface → Framed → Bool
carried_in Big interfaces block = can_turn block.type_ block.body
carried_in Little interfaces block = is_copied interfaces block.type_ block.body

-- A merge keeps this block without a packet, whose section has these interfaces so far.
abbrev pub is_carried : List Interface → Framed → Bool
is_carried interfaces block = carried_in block.endianness interfaces block

-- Blocks of this type hold interface statistics.
abbrev pub is_statistics : BlockType → Bool
is_statistics types.InterfaceStatistics = true
is_statistics _ = false

-- Blocks of this type describe an interface.
abbrev pub is_interface : BlockType → Bool
is_interface types.InterfaceDescription = true
is_interface _ = false

-- A block gives something to a merge: it holds a packet, describes an interface, or is kept.
abbrev pub gives : List Interface → Framed → Bool
gives interfaces block = is_packet block.type_ || (is_interface block.type_ || is_carried interfaces block)

-- A kept block with this body, as the output has it. It goes before the next packet, since it has no time.
abbrev pub carried_with : List ℕ → Framed → Packet
carried_with body block = record { time = None; text = raw_little block.type_ body; is_interface = false; left_out = 0 }

-- The body of a kept block, as a little-endian section has it.
abbrev pub little_of : Framed → List ℕ
little_of block = little_body block.endianness block.type_ block.body

-- The interface of a section that has the index `own` has this number in the output.
abbrev pub IsNumbered : List ℕ → ℕ → ℕ → Type 0
IsNumbered numbers own number = (slice_get numbers own ≡ Some number) × (number < 2 ^ 32)

-- The body of statistics of another interface: the first 4 bytes are its number.
abbrev pub with_number : ℕ → List ℕ → List ℕ
with_number number body = number_bytes Little 4 number ++ drop 4 body

-- A kept block of this type becomes this one. Statistics get the output's number of their interface. All other blocks stay as they are, or
-- turn into little-endian order.
abbrev pub CarriedBy : BlockType → List ℕ → Framed → Packet → Type 0
CarriedBy types.InterfaceStatistics numbers block p =
    (own : ℕ) × (first_number block.body ≡ Some own) × (number : ℕ) × IsNumbered numbers own number × (p ≡ carried_with (with_number number block.body) block)
CarriedBy _ numbers block p = p ≡ carried_with (little_of block) block

-- A block is kept as this one, where the interfaces of its section have these numbers in the output.
abbrev pub IsKeptAs : List ℕ → List Interface → Framed → Packet → Type 0
IsKeptAs numbers interfaces block p = (is_carried interfaces block ≡ true) × CarriedBy block.type_ numbers block p

-- The counts after one more block of a section whose header has this many options. A block that is kept isn't counted.
abbrev pub with_framed : ℕ → List Interface → Framed → LeftOut → LeftOut
with_framed options interfaces block left_out = if is_carried interfaces block then left_out else with_block options block.type_ left_out

-- How many interfaces came before the current section, after one more block of this type.
abbrev pub before_with : BlockType → Kept → ℕ
before_with types.SectionHeader kept = kept.all
before_with _ kept = kept.before

-- How many interfaces there were, after one more block of this type.
abbrev pub all_with : BlockType → ℕ → ℕ
all_with types.InterfaceDescription all = counted (all + 1)
all_with _ all = all

-- The counts after one more block of a section with this many options and these interfaces.
abbrev pub kept_with : ℕ → List Interface → Framed → Kept → Kept
kept_with options interfaces block kept =
    record { left_out = with_framed options interfaces block kept.left_out; before = before_with block.type_ kept; all = all_with block.type_ kept.all }

abbrev pub with_item : Item → Kept → Kept
with_item item = kept_with (options_at item.after) (interfaces_at item.after) item.block

-- The counts after these blocks.
abbrev pub with_items : List Item → Kept → Kept
with_items [] kept = kept
with_items (item ∷ items) kept = with_items items (with_item item kept)

-- The output's numbers of the interfaces of the current section, among those of all interfaces of an input.
abbrev pub of_section : Kept → List ℕ → List ℕ
of_section kept numbers = drop kept.before numbers

-- Why a block can't be kept: there is no memory for it, or it is too long.
abbrev pub IsUnkept : Framed → PcapError → Type 0
IsUnkept block e = IsMemory e ⊎ ((4294967248 < length block.body) × HasMessage (codes "Block: a block that is too long") e)

-- How far a reader of blocks is: its source, and what it counted.
pub record Progress : Type 0 where
  pub source : Source
  pub kept : Kept

abbrev pub progress_with : Kept → Source → Progress
progress_with kept source = record { source = source; kept = kept }
