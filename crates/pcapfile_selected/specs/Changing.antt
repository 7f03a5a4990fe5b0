-- The blocks that a selection writes after changes.
use Rattle.std.specs.Prelude.{◌≡◌, ◌≢◌, ◌+◌, ◌⊎◌, ℕ, List, length, nat_lt, Bool, true, false, Option, None, Some, Result, Ok, Err, MatchOption, option_map}
use Rattle.std.specs.List.{slice_get}
use Rattle.std.specs.Io.KnownBytes.{Appends, Keeps}
use Rattle.pcap_core.specs.declared.errors.PcapError.{PcapError}
use Rattle.pcap_core.specs.Errors.{IsIo, IsMemory}
use Rattle.pcap_items.specs.Writing.{AppendsPart}
use Rattle.pcap_times.specs.declared.clock.Clock.{Clock}
use Rattle.pcap_blocks.specs.declared.block_type.BlockType.TheVariants as types
use Rattle.pcap_blocks.specs.InterfaceDescription.{Interface}
use Rattle.pcap_blocks.specs.InterfaceTimes.{IsClockOf}
use Rattle.pcap_ng.specs.Frames.{Framed}
use Rattle.pcap_ng.specs.Lent.{body_in}
use Rattle.pcap_ng.specs.RawBlocks.{raw_in}
use Rattle.pcap_written.specs.Raw.{Raw}
use Rattle.pcap_file.specs.Placed.{is_packet}
use Rattle.pcapfile_run.specs.BlockPackets.{InBlock}
use Rattle.pcapfile_cut.specs.declared.block_moving.Moved.{Moved}
use Rattle.pcapfile_cut.specs.declared.block_moving.Moved.TheVariants as moves
use Rattle.pcapfile_cut.specs.declared.block_shortening.Shortened.{Shortened}
use Rattle.pcapfile_cut.specs.declared.block_shortening.Shortening.{Shortening}
use Rattle.pcapfile_cut.specs.declared.moving.Shift.{Shift}
use Rattle.pcapfile_cut.specs.declared.block_shortening.Shortened.TheVariants as shortens
use Rattle.pcapfile_cut.specs.Cuts.{counted}
use Rattle.pcapfile_cut.specs.MovedBlocks.{HasNoUnits, IsInUnits, Moves}
use Rattle.pcapfile_cut.specs.ShortBlocks.{PutsShortened, most_of}
use Rattle.pcapfile_selected.specs.declared.blocks.changed.Changed.{Changed}
use Rattle.pcapfile_selected.specs.declared.blocks.changed.Changing.{Changing}
use Rattle.pcapfile_selected.specs.declared.source.Exceptions.{Exceptions}
use Rattle.pcapfile_selected.specs.Judging.{IsPacketOf}

-- A change of times in units of an interface's clock, or none if it is no whole number of units that fits 64 bits.
abbrev pub IsShiftBy : Shift → Interface → Option Shift → Type 0
IsShiftBy shift interface units =
    (clock : Clock) × IsClockOf interface clock × MatchOption units (HasNoUnits clock.unit shift) (λ change. IsInUnits clock.unit shift change)

-- A change of times in units of an interface's clock; none if the interface is not described.
abbrev pub IsShiftOn : Shift → Option Interface → Option Shift → Type 0
IsShiftOn shift None units = units ≡ None
IsShiftOn shift (Some interface) units = IsShiftBy shift interface units

-- The time of the packet that a body holds, if it holds one, is moved, and `text` is the block with the new time if it has one.
abbrev pub MovesHeld : Shift → List Interface → Option InBlock → Raw → List ℕ → Moved → Type 0
MovesHeld shift interfaces None raw text moved = moved ≡ moves.Malformed
MovesHeld shift interfaces (Some packet) raw text moved =
    (units : Option Shift) × IsShiftOn shift (slice_get interfaces packet.interface) units × Moves units raw text moved

-- The time of the packet in a block is moved, unless the body is malformed.
abbrev pub MovesBlock : Shift → List Interface → Framed → List ℕ → Moved → Type 0
MovesBlock shift interfaces block text moved =
    (packet : Option InBlock) × IsPacketOf interfaces block packet × MovesHeld shift interfaces packet (raw_in block) text moved

-- The time of the packet in a block is moved, if that is asked for and it holds a packet.
abbrev pub MovesIf : Option Shift → List Interface → Framed → List ℕ → Moved → Type 0
MovesIf None interfaces block text moved = moved ≡ moves.Untimed
MovesIf (Some shift) interfaces block text moved =
    ((is_packet block.type_ ≡ false) × (moved ≡ moves.Untimed)) ⊎ ((is_packet block.type_ ≡ true) × MovesBlock shift interfaces block text moved)

-- The bytes of a block after its time was moved: the new ones if it has another time, or else its own.
abbrev pub text_moved : List ℕ → List ℕ → Moved → List ℕ
text_moved text new moves.Changed = new
text_moved text new _ = text

-- The block of this one's type and byte order in these bytes.
abbrev pub raw_behind : Framed → List ℕ → Raw
raw_behind block text = record { type_ = block.type_; endianness = block.endianness; body = body_in text }

-- The most bytes that are written of each packet, if a number is given.
abbrev pub most_in : Option Shortening → Option ℕ
most_in = option_map most_of

-- A block with these bytes was written, with at most so many bytes of its packet if a number is given.
abbrev pub PutsWithin : Option ℕ → Raw → List ℕ → Option (List ℕ) → Option (List ℕ) → Result (Option Shortened) PcapError → Type 0
PutsWithin None raw text out out_now (Ok shortened) = (shortened ≡ None) × Appends out out_now text
PutsWithin None raw text out out_now (Err e) = IsIo e × AppendsPart out out_now text
PutsWithin (Some most) raw text out out_now (Ok None) = ⊥
PutsWithin (Some most) raw text out out_now (Ok (Some shortened)) = PutsShortened most raw text out out_now (Ok shortened)
PutsWithin (Some most) raw text out out_now (Err e) = PutsShortened most raw text out out_now (Err e)

-- A block was written after its time was moved, if that is asked for, with at most so many bytes of its packet. Or memory ran out before,
-- or a write failed in it.
abbrev pub PutsChanged : Changing → List Interface → Framed → List ℕ → Option (List ℕ) → Option (List ℕ) → Result Changed PcapError → Type 0
PutsChanged changing interfaces block text out out_now (Ok changed) =
    (new : List ℕ) × MovesIf changing.shift interfaces block new changed.moved
    × (let written = text_moved text new changed.moved in
    PutsWithin (most_in changing.shortening) (raw_behind block written) written out out_now (Ok changed.shortened))
PutsChanged changing interfaces block text out out_now (Err e) =
    (IsMemory e × Keeps out out_now)
    ⊎ ((new : List ℕ) × (moved : Moved) × MovesIf changing.shift interfaces block new moved
    × (let written = text_moved text new moved in PutsWithin (most_in changing.shortening) (raw_behind block written) written out out_now (Err e)))

-- The changes that are asked for are the same.
pub record AsksSame (old new : Changing) : Type 0 where
  pub shift : new.shift ≡ old.shift
  pub most : most_in new.shortening ≡ most_in old.shortening

-- A packet has more than so many bytes.
abbrev pub is_longer : ℕ → Option InBlock → Bool
is_longer most packet = elim packet [ None ↦ false | Some it ↦ nat_lt most (length it.bytes) ]

-- The block is a simple packet with more bytes than are written of other packets, if a number is given.
abbrev pub IsLongerSimple : Option ℕ → List Interface → Framed → Bool → Type 0
IsLongerSimple None interfaces block is = is ≡ false
IsLongerSimple (Some most) interfaces block is =
    ((block.type_ ≢ types.SimplePacket) × (is ≡ false))
    ⊎ ((block.type_ ≡ types.SimplePacket) × (packet : Option InBlock) × IsPacketOf interfaces block packet × (is ≡ is_longer most packet))

-- The counts of packets whose time was not moved, after a block.
abbrev pub exceptions_moved : Moved → Exceptions → Exceptions
exceptions_moved moves.Malformed old = record old { unmoved_malformed = counted (old.unmoved_malformed + 1) }
exceptions_moved moves.Unstated old = record old { unmoved = counted (old.unmoved + 1) }
exceptions_moved _ old = old

-- The count of packets with a malformed body that were not shortened, after a block.
abbrev pub exceptions_shortened : Option Shortened → Exceptions → Exceptions
exceptions_shortened (Some shortens.Malformed) old = record old { whole_malformed = counted (old.whole_malformed + 1) }
exceptions_shortened _ old = old

-- The count of longer simple packets after a block.
abbrev pub exceptions_simple : Bool → Exceptions → Exceptions
exceptions_simple true old = record old { whole_simple = counted (old.whole_simple + 1) }
exceptions_simple false old = old

-- The counts of packets that were not changed as the user asks, after a block.
abbrev pub exceptions_changed : Changed → Bool → Exceptions → Exceptions
exceptions_changed changed is_longer_simple old =
    exceptions_simple is_longer_simple (exceptions_shortened changed.shortened (exceptions_moved changed.moved old))
