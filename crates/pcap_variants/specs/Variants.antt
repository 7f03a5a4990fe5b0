-- Packets of the variants of classic captures, and their bytes.
use Rattle.std.specs.Prelude.{◌≡◌, ◌<◌, ◌≤◌, ◌+◌, ◌++◌, ◌∷◌, [], ℕ, List, length, drop}
use Rattle.pcap_core.specs.declared.common.Endianness.{Endianness}
use Rattle.pcap_core.specs.declared.common.Endianness.TheVariants.{Big, Little}
use Rattle.pcap_core.specs.Answer.{number_in}
use Rattle.pcap_variants.specs.declared.variant.Further.{Further}
use Rattle.pcap_variants.specs.declared.variant.Further.TheVariants.{Four, Eight, Twelve}
use Rattle.pcap_variants.specs.declared.variant.Variant.{Variant}

-- The number of further bytes in each head.
abbrev pub further_len : Further → ℕ
further_len Four = 4
further_len Eight = 8
further_len Twelve = 12

-- The first bytes of a plain capture with times in microseconds.
abbrev pub plain_magic_in : Endianness → List ℕ
plain_magic_in Big = 0xa1 ∷ 0xb2 ∷ 0xc3 ∷ 0xd4 ∷ []
plain_magic_in Little = 0xd4 ∷ 0xc3 ∷ 0xb2 ∷ 0xa1 ∷ []

-- The first bytes of a capture of a modified libpcap.
abbrev pub modified_magic_in : Endianness → List ℕ
modified_magic_in Big = 0xa1 ∷ 0xb2 ∷ 0xcd ∷ 0x34 ∷ []
modified_magic_in Little = 0x34 ∷ 0xcd ∷ 0xb2 ∷ 0xa1 ∷ []

-- The number in the four bytes of a head behind an offset.
abbrev pub number_at : Endianness → ℕ → List ℕ → ℕ
number_at order offset head = number_in order 4 (drop offset head)

-- The stored length of the packet with this head.
abbrev pub included_in : Endianness → List ℕ → ℕ
included_in order head = number_at order 8 head

-- A head has a time or an original length, a fraction below a second, and a stored length of at most 262144 bytes.
pub record CanBeHead (order : Endianness) (head : List ℕ) : Type 0 where
  pub some : 0 < number_at order 0 head + number_at order 12 head
  pub fraction : number_at order 4 head < 1000000
  pub included : included_in order head ≤ 262144

-- The bytes of a packet: its usual head, the further bytes behind it, and the stored data.
pub record Packet : Type 0 where
  pub head : List ℕ
  pub further : List ℕ
  pub stored : List ℕ

-- The bytes are a packet of this variant.
pub record IsPacket (variant : Variant) (packet : Packet) : Type 0 where
  pub head : length packet.head ≡ 16
  pub further : length packet.further ≡ further_len variant.further
  pub stored : included_in variant.order packet.head ≡ length packet.stored
  pub can : CanBeHead variant.order packet.head

-- Each of these is a packet of this variant.
abbrev pub ArePackets : Variant → List Packet → Type 0
ArePackets variant [] = Unit {0}
ArePackets variant (packet ∷ packets) = IsPacket variant packet × ArePackets variant packets

-- The bytes of packets in a capture of the variant.
abbrev pub text_of : List Packet → List ℕ
text_of [] = []
text_of (packet ∷ packets) = packet.head ++ (packet.further ++ (packet.stored ++ text_of packets))

-- The bytes of the same packets in a plain capture.
abbrev pub plain_of : List Packet → List ℕ
plain_of [] = []
plain_of (packet ∷ packets) = packet.head ++ (packet.stored ++ plain_of packets)
