-- Blocks and lists of options that are written from the options of a program in C.
use Rattle.std.specs.Prelude.{◌≡◌, ◌≢◌, ◌<◌, ◌≤◌, ◌+◌, ◌^◌, ◌⊎◌, ℕ, ℤ, pos, List, [], ◌∷◌, ◌++◌, length, Bool, true, false, All, Any}
use Rattle.std.specs.List.{flat_map}
use Rattle.pcap_core.specs.Codec.{Encoder}
use Rattle.pcap_core.specs.Padded.{up_to_4}
use Rattle.pcap_written.specs.Bodies.{block_text}
use Rattle.pcap_written.specs.Text.{coded_bytes, end_mark, padded_bytes}
use Rattle.pcapfile_values.specs.declared.reasons.Reason.TheVariants as reasons
use Rattle.pcapfile_values.specs.Reasons.{IsRefused}
use Rattle.pcapfile_c.specs.declared.options.PcapfileOption.{PcapfileOption}
use Rattle.pcapfile_c.specs.declared.parts.Measured.{Measured}
use Rattle.pcapfile_c.specs.declared.parts.Measured.TheVariants as measured
use Rattle.pcapfile_c.specs.declared.parts.Parts.{Parts}
use Rattle.pcapfile_c.specs.Readers.{Writer}
use Rattle.pcapfile_c.specs.Rooms.{BeginsWith, NeedsRoom}

-- An option as it is written: its code, the length of its value, and the value with its padding.
abbrev pub option_bytes : Encoder → PcapfileOption → List ℕ
option_bytes write o = coded_bytes write o.code o.value.now

-- Options one after the other.
abbrev pub each_bytes : Encoder → List PcapfileOption → List ℕ
each_bytes write os = flat_map (option_bytes write) os

-- A list of options, and the mark that ends it; nothing if there are no options.
abbrev pub list_bytes : Encoder → List PcapfileOption → List ℕ
list_bytes write [] = []
list_bytes write (o ∷ os) = each_bytes write (o ∷ os) ++ end_mark write

-- The options that follow a clock end with their mark even if there are none; others are a list.
abbrev pub tail_bytes : Encoder → Bool → List PcapfileOption → List ℕ
tail_bytes write true os = each_bytes write os ++ end_mark write
tail_bytes write false os = list_bytes write os

-- A call writes this code itself after a clock: that of the unit, or that of the offset (if_tsresol, if_tsoffset).
abbrev pub IsOfClock : Bool → ℕ → Type 0
IsOfClock clocked code = (clocked ≡ true) × ((code ≡ 9) ⊎ (code ≡ 14))

-- The option can be written: its code is neither that of the mark nor one that the call writes, and two bytes hold its length.
pub record IsListed (clocked : Bool) (o : PcapfileOption) : Type 0 where
  pub no_mark : o.code ≢ 0
  pub no_clock : IsOfClock clocked o.code → ⊥
  pub short : length o.value.now < 2 ^ 16

-- The option can't be written.
abbrev pub IsUnlisted : Bool → PcapfileOption → Type 0
IsUnlisted clocked o = (o.code ≡ 0) ⊎ (IsOfClock clocked o.code ⊎ (2 ^ 16 ≤ length o.value.now))

-- The number of bytes of the options and their mark, or why they aren't written: one of them can't be, or they are too long for a block.
abbrev pub Measures : Encoder → Bool → List PcapfileOption → Measured → Type 0
Measures write clocked os (measured.Bytes n) = All (IsListed clocked) os × (n ≡ length (tail_bytes write clocked os)) × (n < 2 ^ 32)
Measures write clocked os measured.Unlisted = Any (IsUnlisted clocked) os
Measures write clocked os measured.TooLong = 2 ^ 32 ≤ length (tail_bytes write clocked os) + 12

-- The body of a block from its parts: the head, the data with its padding, and the options.
abbrev pub parts_body : Encoder → Parts → List ℕ
parts_body write p = p.head.now ++ (padded_bytes p.data_.now ++ tail_bytes write p.clocked p.options.now)

-- The bytes of a block from its parts.
abbrev pub parts_text : Encoder → Parts → List ℕ
parts_text write p = block_text write p.type_ (parts_body write p)

-- The block can be written: its options can, and its length fits four bytes.
pub record IsFitParts (write : Encoder) (p : Parts) : Type 0 where
  pub listed : All (IsListed p.clocked) p.options.now
  pub short : length (parts_body write p) + 12 < 2 ^ 32

-- The result of writing a text. Status 0: the room begins with it. Nothing is written under the others. 9: the room is too short. 3: the
-- text is too long for a block. 10: an option can't be written.
abbrev pub PutsText : Type 0 → Type 0 → Type 0 → List ℕ → Writer → Writer → ℤ → Type 0
PutsText Fits Unlisted TooLong text old new status =
    ((status ≡ pos 0) × (new.error ≡ old.error) × Fits × BeginsWith text old.room new.room new.written)
    ⊎ ((new.room ≡ old.room) × (new.written ≡ old.written)
    × (((status ≡ pos 9) × Fits × NeedsRoom text old.room new.error)
    ⊎ ((TooLong × IsRefused reasons.BlockTooLong new.error status)
    ⊎ ((status ≡ pos 10) × (new.error ≡ old.error) × Unlisted))))

-- The result of writing a block from its parts.
abbrev pub PutsParts : Encoder → Parts → Writer → Writer → ℤ → Type 0
PutsParts write p =
    PutsText (IsFitParts write p) (Any (IsUnlisted p.clocked) p.options.now) (2 ^ 32 ≤ length (parts_body write p) + 12) (parts_text write p)

-- The result of writing a list of options.
abbrev pub PutsList : Encoder → List PcapfileOption → Writer → Writer → ℤ → Type 0
PutsList write os = PutsText (All (IsListed false) os) (Any (IsUnlisted false) os) (2 ^ 32 ≤ length (list_bytes write os) + 12) (list_bytes write os)
