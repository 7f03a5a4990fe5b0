-- The variant that the first bytes of a capture show.
use Rattle.std.specs.Prelude.{◌≡◌, ◌<◌, ◌≤◌, ◌⊎◌, ℕ, List, length, drop, Option, None, Some}
use Rattle.pcap_core.specs.declared.common.Endianness.{Endianness}
use Rattle.pcap_core.specs.declared.common.Endianness.TheVariants.{Big, Little}
use Rattle.pcap_variants.specs.Rows.{Row, length_of}
use Rattle.pcap_variants.specs.Variants.{number_at}
use Rattle.pcap_variants.specs.declared.variant.Further.{Further}
use Rattle.pcap_variants.specs.declared.variant.Further.TheVariants.{Four, Eight, Twelve}
use Rattle.pcap_variants.specs.declared.variant.Variant.{Variant}

-- Three packets with so many further bytes in their heads follow each other, or two, to the end.
pub record LongRow (order : Endianness) (further : ℕ) (s : List ℕ) : Type 0 where
  pub row : Row order further None 3 s
  pub more : length_of order further s < length s

-- The packets of a capture of a modified libpcap show how many further bytes their heads have: 8, or 12 if only then two follow each other.
abbrev pub ShowsModified : Endianness → List ℕ → Further → Type 0
ShowsModified order s Four = ⊥
ShowsModified order s Eight = Row order 8 None 2 s ⊎ (Row order 12 None 2 s → ⊥)
ShowsModified order s Twelve = (Row order 8 None 2 s → ⊥) × Row order 12 None 2 s

-- The packets of a capture with the plain magic number show whether their heads have further bytes. They have none if two plain packets
-- follow each other, and otherwise 4 or 8 if three packets do then.
abbrev pub ShowsPlain : Endianness → List ℕ → Option Further → Type 0
ShowsPlain order s None = Row order 0 None 2 s ⊎ ((LongRow order 4 s → ⊥) × (LongRow order 8 s → ⊥))
ShowsPlain order s (Some Four) = (Row order 0 None 2 s → ⊥) × LongRow order 4 s
ShowsPlain order s (Some Eight) = (Row order 0 None 2 s → ⊥) × (LongRow order 4 s → ⊥) × LongRow order 8 s
ShowsPlain order s (Some Twelve) = ⊥

-- The magic number is neither the plain one nor the modified one.
pub record IsOther (magic : ℕ) : Type 0 where
  pub modified : magic ≡ 0xa1b2cd34 → ⊥
  pub modified_little : magic ≡ 0x34cdb2a1 → ⊥
  pub plain : magic ≡ 0xa1b2c3d4 → ⊥
  pub plain_little : magic ≡ 0xd4c3b2a1 → ⊥

-- It is the variant in this byte order of a capture of a modified libpcap with these packets.
abbrev pub IsModified : Endianness → List ℕ → Option Variant → Type 0
IsModified order s None = ⊥
IsModified order s (Some variant) = (variant.order ≡ order) × ShowsModified order s variant.further

-- It is the variant in this byte order of a capture with the plain magic number and these packets, if that is of one.
abbrev pub IsPlain : Endianness → List ℕ → Option Variant → Type 0
IsPlain order s None = ShowsPlain order s None
IsPlain order s (Some variant) = (variant.order ≡ order) × ShowsPlain order s (Some variant.further)

-- It is the variant of a capture with this magic number, read with the highest byte first, and these packets, if that is of one.
pub record Shows (magic : ℕ) (s : List ℕ) (result : Option Variant) : Type 0 where
  pub modified : magic ≡ 0xa1b2cd34 → IsModified Big s result
  pub modified_little : magic ≡ 0x34cdb2a1 → IsModified Little s result
  pub plain : magic ≡ 0xa1b2c3d4 → IsPlain Big s result
  pub plain_little : magic ≡ 0xd4c3b2a1 → IsPlain Little s result
  pub other : IsOther magic → result ≡ None

-- It is the variant of the capture that begins with `s`, behind whose file header the packets follow, if that is of one.
pub record Recognizes (s : List ℕ) (result : Option Variant) : Type 0 where
  pub short : length s < 24 → result ≡ None
  pub long : 24 ≤ length s → Shows (number_at Big 0 s) (drop 24 s) result
