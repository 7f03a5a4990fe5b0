-- Counts of packets.
use Rattle.std.specs.Prelude.{◌≡◌, ◌<◌, ◌⊎◌, ◌==◌, ◌^◌, ◌+◌, ◌*◌, ◌<ℤ◌, ◌↔◌, ◌++◌, ◌∷◌, ℕ, ℤ, pos, negsuc, List, [], Bool, true, false, IsTrue, Option, None, Some, nat_lt, if◌then◌else◌, length, sum_by, count_by, map, filter_map, replicate, All, AllPairs, Contains, slice_index}
use Rattle.pcap_times.specs.declared.clock.Timestamp.{Timestamp}
use Rattle.pcapfile_run.specs.Passing.{counted}
use Rattle.pcapfile_info.specs.declared.late.Late.{Late}
use Rattle.pcapfile_info.specs.declared.late.Late.TheVariants.{NoPacket, Packets}
use Rattle.pcapfile_info.specs.declared.seen.Seen.{Seen}
use Rattle.pcapfile_info.specs.declared.spread.Spread.{Spread}
use Rattle.pcapfile_info.specs.declared.tally.Tally.{Tally}
use Rattle.pcapfile_info.specs.Spreads.{Spreads}

-- One time is before another: by seconds, and if these are equal by nanoseconds.
abbrev pub IsBefore : Timestamp → Timestamp → Type 0
IsBefore left right = (left.seconds <ℤ right.seconds) ⊎ ((left.seconds ≡ right.seconds) × (left.nanoseconds < right.nanoseconds))

-- One time is after another.
abbrev pub IsAfter : Timestamp → Timestamp → Type 0
IsAfter left right = IsBefore right left

-- The time is the one of a known time, if any, and a new time that comes first.
abbrev pub IsFirstOf : (Timestamp → Timestamp → Type 0) → Option Timestamp → Timestamp → Timestamp → Type 0
IsFirstOf Comes None time first = first ≡ time
IsFirstOf Comes (Some known) time first = (Comes known time × (first ≡ known)) ⊎ ((Comes known time → ⊥) × (first ≡ time))

-- The first time after one more packet, which may have no time.
abbrev pub IsFirstWith : (Timestamp → Timestamp → Type 0) → Option Timestamp → Option Timestamp → Option Timestamp → Type 0
IsFirstWith Comes known None first = first ≡ known
IsFirstWith Comes known (Some time) None = ⊥
IsFirstWith Comes known (Some time) (Some first) = IsFirstOf Comes known time first

-- The first of these times is one of them, and none comes before it; without times there is none.
abbrev pub IsFirst : (Timestamp → Timestamp → Type 0) → List Timestamp → Option Timestamp → Type 0
IsFirst Comes times None = times ≡ []
IsFirst Comes times (Some first) = Contains times first × All (λ time. Comes time first → ⊥) times

-- No time is before an earlier one in the list.
abbrev pub AreInOrder : List Timestamp → Type 0
AreInOrder = AllPairs (λ earlier later. IsBefore later earlier → ⊥)

-- Whether times are in order after one more: as before, or no longer if it is before the latest one.
abbrev pub IsOrderOf : Option Timestamp → Timestamp → Bool → Bool → Type 0
IsOrderOf None time before after = after ≡ before
IsOrderOf (Some latest) time before after = (IsBefore time latest × (after ≡ false)) ⊎ ((IsBefore time latest → ⊥) × (after ≡ before))

-- Whether times are in order after one more packet, which may have no time.
abbrev pub IsOrderWith : Option Timestamp → Option Timestamp → Bool → Bool → Type 0
IsOrderWith latest None before after = after ≡ before
IsOrderWith latest (Some time) before after = IsOrderOf latest time before after

-- The times of those packets that have one.
abbrev pub times_of : List Seen → List Timestamp
times_of = filter_map (λ packet. packet.time)

-- The nanoseconds from 1970 to a time with these seconds and nanoseconds: 0 before 1970, and at most 2^64 - 1.
abbrev pub nanoseconds_of : ℤ → ℕ → ℕ
nanoseconds_of (pos seconds) nanoseconds = counted (seconds * 10 ^ 9 + nanoseconds)
nanoseconds_of (negsuc before) nanoseconds = 0

-- The nanoseconds from 1970 to a time: 0 before 1970, and at most 2^64 - 1.
abbrev pub instant_of : Timestamp → ℕ
instant_of time = nanoseconds_of time.seconds time.nanoseconds

-- The instants of the packets that have a time.
abbrev pub instants_of : List Seen → List ℕ
instants_of packets = map instant_of (times_of packets)

-- The spread counts these instants; without instants there is none.
abbrev pub IsSpread : List ℕ → Option Spread → Type 0
IsSpread instants None = instants ≡ []
IsSpread instants (Some spread) = Spreads instants spread

-- The spread after one more packet, which may have no time.
abbrev pub IsSpreadWith : Option Spread → Option Timestamp → Option Spread → Type 0
IsSpreadWith known None spread = spread ≡ known
IsSpreadWith known (Some time) spread = (instants : List ℕ) → IsSpread instants known → IsSpread (instants ++ instant_of time ∷ []) spread

-- The class of a length.
abbrev pub size_class : ℕ → ℕ
size_class n =
    if nat_lt n 20 then 0
    else if nat_lt n 40 then 1
    else if nat_lt n 80 then 2
    else if nat_lt n 160 then 3
    else if nat_lt n 320 then 4
    else if nat_lt n 640 then 5
    else if nat_lt n 1280 then 6
    else if nat_lt n 2560 then 7
    else if nat_lt n 5120 then 8
    else 9

-- The packet's original length is of this class.
abbrev pub is_of_class : ℕ → Seen → Bool
is_of_class class packet = size_class packet.original == class

-- The tally has the counts of these packets.
pub record Tallies (packets : List Seen) (tally : Tally) : Type 0 where
  pub number : tally.packets ≡ counted (length packets)
  pub stored : tally.stored ≡ counted (sum_by (λ packet. packet.stored) packets)
  pub original : tally.original ≡ counted (sum_by (λ packet. packet.original) packets)
  pub earliest : IsFirst IsBefore (times_of packets) tally.earliest
  pub latest : IsFirst IsAfter (times_of packets) tally.latest
  pub in_order : IsTrue tally.in_order ↔ AreInOrder (times_of packets)
  pub sizes : (class : ℕ) → class < 10 → slice_index tally.sizes class ≡ counted (count_by (is_of_class class) packets)
  pub spread : IsSpread (instants_of packets) tally.spread

-- The counts of no packets.
abbrev pub no_tally : Tally
no_tally = record { packets = 0; stored = 0; original = 0; earliest = None; latest = None; in_order = true; sizes = replicate 10 0; spread = None }

-- The counts of an interface's packets, which are those of no packets before its first one.
abbrev pub tally_of : Late → Tally
tally_of NoPacket = no_tally
tally_of (Packets counts) = counts.value
