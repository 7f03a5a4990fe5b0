-- Packets that follow each other, and the variant that they show.
use Rattle.std.specs.Prelude.{◌≡◌, ◌<◌, ◌≤◌, ◌+◌, ◌⊎◌, ℕ, zero, suc, List, length, drop, take, Option, None, Some}
use Rattle.pcap_core.specs.declared.common.Endianness.{Endianness}
use Rattle.pcap_variants.specs.Variants.{CanBeHead, included_in, number_at}

-- Two times, in seconds, are at most a day apart.
pub record Near (a b : ℕ) : Type 0 where
  pub before : a ≤ b + 86400
  pub after : b ≤ a + 86400

-- The seconds are near a given time. Without one, they are larger than any length, so that a repeated number is no packet.
abbrev pub Timely : Option ℕ → ℕ → Type 0
Timely (Some time) seconds = Near time seconds
Timely None seconds = 262144 < seconds

-- The seconds of the head at the front of `s`.
abbrev pub seconds_of : Endianness → List ℕ → ℕ
seconds_of order s = number_at order 0 (take 16 s)

-- The length of the packet at the front of `s`, whose head has so many further bytes.
abbrev pub length_of : Endianness → ℕ → List ℕ → ℕ
length_of order further s = 16 + further + included_in order (take 16 s)

-- `s` begins with a timely head, which has so many further bytes.
pub record BeginsPacket (order : Endianness) (further : ℕ) (time : Option ℕ) (s : List ℕ) : Type 0 where
  pub whole : 16 + further ≤ length s
  pub can : CanBeHead order (take 16 s)
  pub timely : Timely time (seconds_of order s)

-- `k` such heads follow each other with their data from the front, or fewer, at least one, to the end. Each is near the one before it.
abbrev pub Row : Endianness → ℕ → Option ℕ → ℕ → List ℕ → Type 0
Row order further time zero s = Unit {0}
Row order further time (suc k) s = BeginsPacket order further time s
    × ((length_of order further s ≡ length s) ⊎ Row order further (Some (seconds_of order s)) k (drop (length_of order further s) s))
