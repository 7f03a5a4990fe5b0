-- Blocks whose packets keep at most a number of their bytes.
use Rattle.std.specs.Prelude.{◌≡◌, ◌<◌, ◌≤◌, ◌++◌, ◌⊎◌, ℕ, List, length, take, Bool, true, Option, Result, Ok, Err}
use Rattle.std.specs.Io.KnownBytes.{Appends, Keeps}
use Rattle.pcap_core.specs.declared.errors.PcapError.{PcapError}
use Rattle.pcap_core.specs.Errors.{IsIo, IsMemory}
use Rattle.pcap_items.specs.Writing.{AppendsPart}
use Rattle.pcap_core.specs.Answer.{Number, Order, number_in}
use Rattle.pcap_core.specs.Codec.{Encoder, number_bytes}
use Rattle.pcap_core.specs.Padded.{Padded, up_to_4}
use Rattle.pcap_blocks.specs.declared.block_type.BlockType.{BlockType}
use Rattle.pcap_blocks.specs.declared.block_type.BlockType.TheVariants as types
use Rattle.pcap_blocks.specs.EnhancedPacket.{Enhanced}
use Rattle.pcap_written.specs.Raw.{Raw, raw_text}
use Rattle.pcap_written.specs.Text.{padded_bytes}
use Rattle.pcapfile_cut.specs.declared.block_shortening.Parts.{Parts}
use Rattle.pcapfile_cut.specs.declared.block_shortening.Shortened.{Shortened}
use Rattle.pcapfile_cut.specs.declared.block_shortening.Shortening.{Shortening}
use Rattle.pcapfile_cut.specs.declared.block_shortening.Shortened.TheVariants.{Changed, Stays, Malformed}

-- The parts of the body of an enhanced or an obsolete packet: the bytes before its lengths, which have its interface and its time, those of
-- its original length, its data, and those of its options.
pub record Parted : Type 0 where
  pub front : List ℕ
  pub original : List ℕ
  pub bytes : List ℕ
  pub options : List ℕ

-- The parts that the program found.
abbrev pub parted : Parts → Parted
parted parts = record { front = parts.front.now; original = parts.original.now; bytes = parts.bytes.now; options = parts.options.now }

-- The body has these parts: the length of the data precedes the original length, and padding of any value follows the data.
pub record PartedText (order : Order) (parts : Parted) (body : List ℕ) : Type 0 where
  pub after_front : List ℕ
  pub after_captured : List ℕ
  pub after_original : List ℕ
  pub front_is : body ≡ parts.front ++ after_front
  pub front_length : length parts.front ≡ 12
  pub captured_is : Number order 4 (length parts.bytes) after_front after_captured
  pub original_is : after_captured ≡ parts.original ++ after_original
  pub original_length : length parts.original ≡ 4
  pub padded : Padded parts.bytes after_original parts.options

-- The body has room for its numbers, and not for the data of the stated length with their padding.
pub record IsCutOff (order : Order) (body : List ℕ) : Type 0 where
  pub front : List ℕ
  pub captured : ℕ
  pub original : List ℕ
  pub after_front : List ℕ
  pub after_captured : List ℕ
  pub after_original : List ℕ
  pub front_is : body ≡ front ++ after_front
  pub front_length : length front ≡ 12
  pub captured_is : Number order 4 captured after_front after_captured
  pub original_is : after_captured ≡ original ++ after_original
  pub original_length : length original ≡ 4
  pub short : length after_original < up_to_4 captured

-- The body has no room for its numbers, or for its data.
pub data HasNoRoom (order : Order) (body : List ℕ) : Type 0 where
  too_short : length body < 20 → HasNoRoom order body
  cut_off : IsCutOff order body → HasNoRoom order body

-- The body with the first n bytes of the data, and zeros up to a multiple of 4.
abbrev pub short_body : Encoder → ℕ → Parted → List ℕ
short_body write n parts = parts.front ++ (write 4 n ++ (parts.original ++ (padded_bytes (take n parts.bytes) ++ parts.options)))

-- The block with another body.
abbrev pub with_body : Raw → List ℕ → Raw
with_body raw s = record { type_ = raw.type_; endianness = raw.endianness; body = s }

-- A packet of more than n bytes is written with the first n; any other block stays.
abbrev pub ShortensIn : Order → Encoder → ℕ → Raw → List ℕ → Shortened → Type 0
ShortensIn order write n raw text Changed =
    (parts : Parted) × PartedText order parts raw.body × (n < length parts.bytes) × (text ≡ raw_text (with_body raw (short_body write n parts)))
ShortensIn order write n raw text Stays = (parts : Parted) × PartedText order parts raw.body × (length parts.bytes ≤ n)
ShortensIn order write n raw text Malformed = HasNoRoom order raw.body

-- Blocks of this type are shortened if they state the stored length of a packet, as enhanced and obsolete packets do; others stay.
abbrev pub ShortensAs : BlockType → ℕ → Raw → List ℕ → Shortened → Type 0
ShortensAs types.EnhancedPacket n raw text shortened = ShortensIn (number_in raw.endianness) (number_bytes raw.endianness) n raw text shortened
ShortensAs types.Packet n raw text shortened = ShortensIn (number_in raw.endianness) (number_bytes raw.endianness) n raw text shortened
ShortensAs _ n raw text shortened = shortened ≡ Stays

-- The block is shortened to n bytes of its packet, by its type.
abbrev pub Shortens : ℕ → Raw → List ℕ → Shortened → Type 0
Shortens n raw text shortened = ShortensAs raw.type_ n raw text shortened

-- The most bytes that are written of each packet.
abbrev pub most_of : Shortening → ℕ
most_of shortening = shortening.most

-- The bytes that are written for a block: those of the shortened block, or its own.
abbrev pub text_after : List ℕ → List ℕ → Shortened → List ℕ
text_after text short Changed = short
text_after text short _ = text

-- A block with these bytes was written, shortened if its packet has more than n bytes. Or memory ran out before, or a write failed in it.
abbrev pub PutsShortened : ℕ → Raw → List ℕ → Option (List ℕ) → Option (List ℕ) → Result Shortened PcapError → Type 0
PutsShortened n raw text out out_now (Ok shortened) = (short : List ℕ) × Shortens n raw short shortened × Appends out out_now (text_after text short shortened)
PutsShortened n raw text out out_now (Err e) =
    (IsMemory e × Keeps out out_now)
    ⊎ (IsIo e × (short : List ℕ) × (shortened : Shortened) × Shortens n raw short shortened × AppendsPart out out_now (text_after text short shortened))

-- The flag of failed writes after a call: a failed write sets it, and without one it stays.
abbrev pub NotesFailure : {A : Type 0} → Bool → Bool → Result A PcapError → Type 0
NotesFailure old new (Ok a) = new ≡ old
NotesFailure old new (Err e) = (IsMemory e × (new ≡ old)) ⊎ (IsIo e × (new ≡ true))

-- The enhanced packet with the first n of its bytes.
abbrev pub first_bytes : ℕ → Enhanced → Enhanced
first_bytes n enhanced = record {
  interface_id = enhanced.interface_id;
  packet = record {
    timestamp = enhanced.packet.timestamp;
    captured_len = n;
    original_len = enhanced.packet.original_len;
    bytes = take n enhanced.packet.bytes;
    options = enhanced.packet.options;
  };
}
