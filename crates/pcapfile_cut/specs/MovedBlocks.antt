-- Blocks whose packets get another time.
use Rattle.std.specs.Prelude.{◌≡◌, ◌<◌, ◌+◌, ◌*◌, ◌/◌, ◌%◌, ◌^◌, ◌++◌, ℕ, List, length, Option, None, Some}
use Rattle.pcap_core.specs.Answer.{Number, Order, number_in}
use Rattle.pcap_core.specs.Codec.{Encoder, number_bytes}
use Rattle.pcap_blocks.specs.declared.block_type.BlockType.{BlockType}
use Rattle.pcap_blocks.specs.declared.block_type.BlockType.TheVariants as types
use Rattle.pcap_times.specs.declared.unit.TimeUnit.{TimeUnit}
use Rattle.pcap_times.specs.Times.{units_in_second}
use Rattle.pcap_written.specs.Raw.{Raw, raw_text}
use Rattle.pcapfile_cut.specs.declared.block_moving.Moved.{Moved}
use Rattle.pcapfile_cut.specs.declared.block_moving.Moved.TheVariants.{Changed, Unstated, Malformed, Untimed}
use Rattle.pcapfile_cut.specs.declared.block_moving.Moving.{Moving}
use Rattle.pcapfile_cut.specs.declared.block_moving.Timed.{Timed}
use Rattle.pcapfile_cut.specs.declared.moving.Shift.{Shift}
use Rattle.pcapfile_cut.specs.declared.moving.Shift.TheVariants.{Later, Earlier}
use Rattle.pcapfile_cut.specs.Moves.{moved_by}
use Rattle.pcapfile_cut.specs.ShortBlocks.{with_body}

-- So many units are exactly these nanoseconds.
abbrev pub AreNanoseconds : TimeUnit → ℕ → ℕ → Type 0
AreNanoseconds unit nanoseconds units = units * 1000000000 ≡ units_in_second unit * nanoseconds

-- No number of units that fits 64 bits is exactly these nanoseconds.
abbrev pub AreNoUnits : TimeUnit → ℕ → Type 0
AreNoUnits unit nanoseconds = (units : ℕ) → units < 2 ^ 64 → AreNanoseconds unit nanoseconds units → ⊥

-- Two changes of a time have the same direction, and the second one's units are exactly the first one's nanoseconds.
abbrev pub IsInUnits : TimeUnit → Shift → Shift → Type 0
IsInUnits unit (Later n) (Later units) = AreNanoseconds unit n units
IsInUnits unit (Earlier n) (Earlier units) = AreNanoseconds unit n units
IsInUnits unit _ _ = ⊥

-- A change of a time is no whole number of units that fits 64 bits.
abbrev pub HasNoUnits : TimeUnit → Shift → Type 0
HasNoUnits unit (Later n) = AreNoUnits unit n
HasNoUnits unit (Earlier n) = AreNoUnits unit n

-- The parts of the body of an enhanced or an obsolete packet: the bytes that have its interface, its time in units, and the rest.
pub record TimedParts : Type 0 where
  pub front : List ℕ
  pub time : ℕ
  pub rest : List ℕ

-- The parts that the program found.
abbrev pub timed_parts : Timed → TimedParts
timed_parts timed = record { front = timed.front.now; time = timed.time; rest = timed.rest.now }

-- The body has these parts: the upper half of the time is before the lower one.
pub record TimedText (order : Order) (parts : TimedParts) (body : List ℕ) : Type 0 where
  pub high : ℕ
  pub low : ℕ
  pub after_front : List ℕ
  pub after_high : List ℕ
  pub front_is : body ≡ parts.front ++ after_front
  pub front_length : length parts.front ≡ 4
  pub high_is : Number order 4 high after_front after_high
  pub low_is : Number order 4 low after_high parts.rest
  pub time_is : parts.time ≡ high * 2 ^ 32 + low

-- The body with another time.
abbrev pub body_at : Encoder → TimedParts → ℕ → List ℕ
body_at write parts time = parts.front ++ (write 4 (time / 2 ^ 32) ++ (write 4 (time % 2 ^ 32) ++ parts.rest))

-- The time of this packet's body is moved by a shift in units of its interface, if there is one.
abbrev pub MovesIn : Order → Encoder → Option Shift → Raw → List ℕ → Moved → Type 0
MovesIn order write units raw text Changed =
    (parts : TimedParts) × TimedText order parts raw.body × (shift : Shift) × (units ≡ Some shift)
    × (time : ℕ) × (moved_by shift parts.time ≡ Some time) × (text ≡ raw_text (with_body raw (body_at write parts time)))
MovesIn order write units raw text Unstated =
    (parts : TimedParts) × TimedText order parts raw.body × ((shift : Shift) → units ≡ Some shift → moved_by shift parts.time ≡ None)
MovesIn order write units raw text Malformed = length raw.body < 12
MovesIn order write units raw text Untimed = ⊥

-- Blocks of this type are moved if they have the time of a packet, as enhanced and obsolete packets do.
abbrev pub MovesAs : BlockType → Option Shift → Raw → List ℕ → Moved → Type 0
MovesAs types.EnhancedPacket units raw text moved = MovesIn (number_in raw.endianness) (number_bytes raw.endianness) units raw text moved
MovesAs types.Packet units raw text moved = MovesIn (number_in raw.endianness) (number_bytes raw.endianness) units raw text moved
MovesAs _ units raw text moved = moved ≡ Untimed

-- The bytes of the block that was moved last.
abbrev pub text_of : Moving → List ℕ
text_of moving = moving.text.items

-- The packet of the block is moved, by its type.
abbrev pub Moves : Option Shift → Raw → List ℕ → Moved → Type 0
Moves units raw text moved = MovesAs raw.type_ units raw text moved
