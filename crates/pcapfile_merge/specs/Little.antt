-- Blocks of big-endian sections, as little-endian sections have them ('Options', 'Custom Options', 'Custom Block', 'Decryption
-- Secrets Block').
use Rattle.std.specs.Prelude.{◌+◌, ◌==◌, ◌&&◌, ◌||◌, ◌++◌, nat_le, nat_lt, if◌then◌else◌, ℕ, zero, suc, List, [], ◌∷◌, length, reverse, take, drop, Bool, true, false}
use Rattle.byteorder.specs.Endian.{big_number}
use Rattle.pcap_core.specs.declared.common.Endianness.{Endianness}
use Rattle.pcap_core.specs.declared.common.Endianness.TheVariants.{Big, Little}
use Rattle.pcap_core.specs.Padded.{up_to_4}
use Rattle.pcap_blocks.specs.declared.block_type.BlockType.{BlockType}
use Rattle.pcap_blocks.specs.declared.block_type.BlockType.TheVariants as types
use Rattle.pcap_options.specs.Values.{Kind, custom_bytes}
use Rattle.pcap_written.specs.Raw.{raw_text}

-- Bytes that begin with numbers of these widths, with the bytes of each number in the other order.
abbrev pub turned : List ℕ → List ℕ → List ℕ
turned [] s = s
turned (width ∷ widths) s = reverse (take width s) ++ turned widths (drop width s)

-- The code at the beginning of an option, and the length of its value.
abbrev pub code_at : List ℕ → ℕ
code_at s = big_number 2 (take 2 s)

abbrev pub len_at : List ℕ → ℕ
len_at s = big_number 2 (take 2 (drop 2 s))

-- The value of a custom option begins with an enterprise number of 4 bytes. Those of other options don't.
abbrev pub number_width : ℕ → ℕ
number_width code = if (code == 2988) || (code == 2989) || (code == 19372) || (code == 19373) then 4 else 0

-- The size of so many bytes and a value of n bytes with its padding, or 0 if there are fewer bytes than that.
abbrev pub size_within : ℕ → ℕ → ℕ → ℕ
size_within before n there = if nat_le (before + up_to_4 n) there then before + up_to_4 n else 0

-- The size of the option at the beginning of some bytes, or 0 if they begin with the mark of the end or with no whole option.
unfoldable pub option_size : List ℕ → ℕ
option_size s = if (code_at s == 0) || nat_lt (len_at s) (number_width (code_at s)) then 0 else size_within 4 (len_at s) (length s)

-- The bytes after the first n options, or after all if there are fewer than n.
unfoldable pub after_options : ℕ → List ℕ → List ℕ
after_options zero s = s
after_options (suc n) s = after_options n (drop (option_size s) s)

-- A list of options ends with its bytes, or with a mark.
unfoldable pub is_end : List ℕ → Bool
is_end s = (length s == 0) || (nat_le 4 (length s) && (code_at s == 0))

-- These bytes are a list of options, which may have other bytes after its mark.
abbrev pub are_options : List ℕ → Bool
are_options s = is_end (after_options (length s) s)

-- The code, the length and the enterprise number of an option turn, and the rest of it stays.
abbrev pub turned_option : List ℕ → List ℕ
turned_option s = turned (2 ∷ 2 ∷ number_width (code_at s) ∷ []) s

-- The first n options turn, and the mark after them. Other bytes after them stay.
unfoldable pub turned_options : ℕ → List ℕ → List ℕ
turned_options zero s = turned (2 ∷ 2 ∷ []) s
turned_options (suc n) s = turned_option (take (option_size s) s) ++ turned_options n (drop (option_size s) s)

-- All options turn, and the mark after them.
abbrev pub turned_all : List ℕ → List ℕ
turned_all s = turned_options (length s) s

-- The kind of options of which only custom ones have a number in their values.
abbrev pub numbered_kind : Kind
numbered_kind = (2988, custom_bytes) ∷ (2989, custom_bytes) ∷ (19372, custom_bytes) ∷ (19373, custom_bytes) ∷ []

-- The size of the type, the length and the padded data at the beginning of the body of secrets, or 0 if there are fewer bytes than that.
unfoldable pub secrets_size : List ℕ → ℕ
secrets_size body = size_within 8 (big_number 4 (take 4 (drop 4 body))) (length body)

-- A body has whole secrets, and then options.
abbrev pub are_secrets : List ℕ → Bool
are_secrets body = nat_lt 0 (secrets_size body) && are_options (drop (secrets_size body) body)

-- The type of secrets and their length turn, and their options.
abbrev pub turned_secrets : List ℕ → List ℕ
turned_secrets body = turned (4 ∷ 4 ∷ []) (take (secrets_size body) body) ++ turned_all (drop (secrets_size body) body)

-- A big-endian block of this type with this body can be kept: a journal entry, secrets (type 10), and a custom block that may be copied into
-- another capture.
abbrev pub can_turn : BlockType → List ℕ → Bool
can_turn types.SystemdJournalExport body = true
can_turn (types.Unknown number) body = if number == 10 then are_secrets body else (number == 0xBAD) && nat_le 4 (length body)
can_turn _ body = false

-- The body of a big-endian block that is kept, in little-endian order. Of a custom block only its enterprise number turns, and a journal entry
-- is text.
abbrev pub turned_body : BlockType → List ℕ → List ℕ
turned_body (types.Unknown number) body = if number == 10 then turned_secrets body else turned (4 ∷ []) body
turned_body _ body = body

-- The body of a block of a section of this order that is kept, as a little-endian section has it.
abbrev pub little_body : Endianness → BlockType → List ℕ → List ℕ
little_body Big type body = turned_body type body
little_body Little type body = body

-- The text of a little-endian block of this type with this body.
abbrev pub raw_little : BlockType → List ℕ → List ℕ
raw_little type body = raw_text (record { type_ = type; endianness = Little; body = body })
