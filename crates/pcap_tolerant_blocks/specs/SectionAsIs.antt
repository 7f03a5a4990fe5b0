-- Sections read leniently ('Section Header Block').
use Rattle.std.specs.Prelude.{◌≡◌, ◌≤◌, ◌<◌, ℕ, List, [], length, Some, None}
use Rattle.byteorder.specs.Endian.{big_number}
use Rattle.pcap_core.specs.declared.common.Endianness.{Endianness}
use Rattle.pcap_core.specs.declared.rules.Rule.TheVariants.{SectionTooShort, SectionMagic}
use Rattle.pcap_core.specs.Answer.{Order, Number, number_in, Verdict, Says}
use Rattle.pcap_core.specs.Faults.{Fault, Invalid}
use Rattle.pcap_options.specs.SectionOption.{section_header}
use Rattle.pcap_blocks.specs.SectionHeader.{Section, VersionText, magic_order}
use Rattle.pcap_tolerant_blocks.specs.Flaws.{Said, Flawed, KeepsSome}
use Rattle.pcap_tolerant_blocks.specs.OptionsAsIs.{OptionsAsIs}

-- `s` is what follows the magic number of a section read leniently, with these flaws, followed by `rest`.
pub record AfterMagic (order : Order) (section : Section) (flaws : List Said) (s rest : List ℕ) : Type 0 where
  pub after_version : List ℕ
  pub version : VersionText order section s after_version
  pub options_are : OptionsAsIs order section_header section.options flaws after_version rest

-- `s` is a section read leniently, with these flaws, followed by `rest`: the magic number, read high byte first, and what follows it in
-- the order that it names.
pub record SectionText (section : Section) (flaws : List Said) (s rest : List ℕ) : Type 0 where
  pub after_magic : List ℕ
  pub endianness : Endianness
  pub magic_is : Number big_number 4 section.magic s after_magic
  pub names : magic_order section.magic ≡ Some endianness
  pub after : AfterMagic (number_in endianness) section flaws after_magic rest

-- The bytes after the magic number are not a section without flaws and options, so a list grows.
abbrev pub VersionGrows : Order → List ℕ → Type 0
VersionGrows order = KeepsSome (AfterMagic order) (λ x. x.options ≡ [])

-- The reason why no byte order is known.
pub data NoSection (s : List ℕ) : Fault → Type 0 where
  short_section : length s < 16 → NoSection s (Invalid SectionTooShort)
  unnamed : (magic : ℕ) (after : List ℕ) → 16 ≤ length s → Number big_number 4 magic s after → magic_order magic ≡ None → NoSection s (Invalid SectionMagic)

-- `s` is a section with a flaw or an option, so a list grows.
pub record SectionGrows (s : List ℕ) : Type 0 where
  pub is_one : (fault : Fault) → NoSection s fault → ⊥
  pub keeps : KeepsSome SectionText (λ x. x.options ≡ []) s

-- The answers of lenient reading where the bytes should be a section.
abbrev pub SectionAsIsSays : List ℕ → Verdict (Flawed Section) → Type 0
SectionAsIsSays s = Says (λ x rest. SectionText x.value x.flaws s rest) (λ n. ⊥) (NoSection s)
