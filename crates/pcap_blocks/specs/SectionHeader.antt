-- The body of a section header ('Section Header Block').
use Rattle.std.specs.Prelude.{◌≡◌, ◌≤◌, ◌<◌, ◌==◌, if◌then◌else◌, ℕ, ℤ, List, [], length, map, All, Option, Some, None}
use Rattle.std.specs.Int.{w64, cast_signed}
use Rattle.byteorder.specs.Endian.{big_number}
use Rattle.pcap_core.specs.declared.common.Endianness.{Endianness}
use Rattle.pcap_core.specs.declared.common.Endianness.TheVariants.{Big, Little}
use Rattle.pcap_core.specs.declared.rules.Rule.TheVariants.{SectionTooShort, SectionMagic}
use Rattle.pcap_core.specs.Answer.{Order, Number, number_in, Verdict, Says}
use Rattle.pcap_core.specs.Faults.{Fault, Invalid}
use Rattle.pcap_blocks.specs.declared.section_header.SectionHeaderBlock.{SectionHeaderBlock}
use Rattle.pcap_core.specs.Padded.{Behind}
use Rattle.pcap_options.specs.Values.{Entry}
use Rattle.pcap_options.specs.Growth.{HoldsAfter}
use Rattle.pcap_options.specs.Options.{may_end_with_body, OptionList, ListFault, OptionsMayGrow}
use Rattle.pcap_options.specs.SectionOption.{section_header, section_entry, SectionOptionIsBorrowed, SectionOptionIsOwned}

-- The byte order that a section's magic number names, if it names one.
unfoldable pub magic_order : ℕ → Option Endianness
magic_order magic = if magic == 0x1A2B3C4D then Some Big else if magic == 0x4D3C2B1A then Some Little else None

-- A section header, wherever its options are in memory.
pub record Section : Type 0 where
  pub magic : ℕ
  pub major_version : ℕ
  pub minor_version : ℕ
  pub section_length : ℤ
  pub options : List Entry

-- `s` is the version and the length of a section, and then `rest`.
pub record VersionText (order : Order) (section : Section) (s rest : List ℕ) : Type 0 where
  pub after_major : List ℕ
  pub after_minor : List ℕ
  pub length_bits : ℕ
  pub major : Number order 2 section.major_version s after_major
  pub minor : Number order 2 section.minor_version after_major after_minor
  pub length_number : Number order 8 length_bits after_minor rest
  pub length_is : section.section_length ≡ cast_signed w64 length_bits

-- `s` is the part of a section after its magic number, and then `rest`: the version, the length and the options.
pub record AfterMagic (order : Order) (section : Section) (s rest : List ℕ) : Type 0 where
  pub after_version : List ℕ
  pub version : VersionText order section s after_version
  pub options_are : OptionList may_end_with_body order section_header section.options after_version rest

-- `s` is the body of a section header and then `rest`: the magic number, read high byte first, and the other fields in the order that it
-- names.
pub record SectionText (section : Section) (s rest : List ℕ) : Type 0 where
  pub after_magic : List ℕ
  pub endianness : Endianness
  pub magic_is : Number big_number 4 section.magic s after_magic
  pub names : magic_order section.magic ≡ Some endianness
  pub after : AfterMagic (number_in endianness) section after_magic rest

-- The fault of the part after the magic number is the fault of its options.
pub record AfterMagicFault (order : Order) (s : List ℕ) (fault : Fault) : Type 0 where
  pub after_version : List ℕ
  pub behind : Behind 12 s after_version
  pub in_options : ListFault may_end_with_body order section_header after_version fault

-- The first fault of `s` as the body of a section header: too few bytes, an unknown magic number, or the fault of its options.
pub data SectionFault (s : List ℕ) : Fault → Type 0 where
  short : length s < 16 → SectionFault s (Invalid SectionTooShort)
  no_magic : (magic : ℕ) (after : List ℕ) → 16 ≤ length s → Number big_number 4 magic s after → magic_order magic ≡ None → SectionFault s (Invalid SectionMagic)
  after_magic : (fault : Fault) (magic : ℕ) (after : List ℕ) (endianness : Endianness) → Number big_number 4 magic s after → magic_order magic ≡ Some endianness
      → AfterMagicFault (number_in endianness) after fault → SectionFault s fault

-- SectionSays s verdict: `s` read as the body of a section header gives this verdict, the section or a fault.
abbrev pub SectionSays : List ℕ → Verdict Section → Type 0
SectionSays s = Says (λ section rest. SectionText section s rest) (λ n. ⊥) (SectionFault s)

-- AfterMagicSays order magic s verdict: `s` read in this order after this magic number gives this verdict, the section or a fault.
abbrev pub AfterMagicSays : Order → ℕ → List ℕ → Verdict Section → Type 0
AfterMagicSays order magic s = Says (λ section rest. (section.magic ≡ magic) × AfterMagic order section s rest) (λ n. ⊥) (AfterMagicFault order s)

-- Reading the part after the magic number may allocate only if an option follows the version and the length.
abbrev pub AfterMagicMayGrow : Order → List ℕ → Type 0
AfterMagicMayGrow order = HoldsAfter 12 (OptionsMayGrow order section_header)

-- Reading a section may allocate only if it has an option, in the order that its magic number names.
pub record SectionMayGrow (s : List ℕ) : Type 0 where
  pub magic : ℕ
  pub after_magic : List ℕ
  pub endianness : Endianness
  pub magic_is : Number big_number 4 magic s after_magic
  pub names : magic_order magic ≡ Some endianness
  pub grows : AfterMagicMayGrow (number_in endianness) after_magic

-- The section of a block in the code.
abbrev pub section_of : SectionHeaderBlock → Section
section_of block = record {
  magic = block.magic;
  major_version = block.major_version;
  minor_version = block.minor_version;
  section_length = block.section_length;
  options = map section_entry block.options.items;
}

-- All strings and bytes of the section's options are borrowed.
abbrev pub SectionIsBorrowed : SectionHeaderBlock → Type 0
SectionIsBorrowed block = All SectionOptionIsBorrowed block.options.items

-- All strings and bytes of the section's options are owned.
abbrev pub SectionIsOwned : SectionHeaderBlock → Type 0
SectionIsOwned block = All SectionOptionIsOwned block.options.items

-- Making a section owned takes no memory: it has no options.
abbrev pub SectionNeedsNoMemory : SectionHeaderBlock → Type 0
SectionNeedsNoMemory block = block.options.items ≡ []
