-- The tests that a user asks for, as those of blocks and of packets.
use Rattle.std.specs.Prelude.{◌≡◌, ◌<◌, ◌≤◌, ◌+◌, ◌-◌, ◌^◌, ◌&&◌, ◌||◌, ◌⊎◌, ℕ, List, [], pos, Bool, true, false, ◌==◌, IsTrue, nat_le, map, All, Contains, is_some, if◌then◌else◌, option_map, Option, None, Some}
use Rattle.pcap_times.specs.declared.clock.Timestamp.{Timestamp}
use Rattle.pcap_blocks.specs.InterfaceDescription.{Interface}
use Rattle.pcap_ng.specs.Frames.{Framed}
use Rattle.pcapfile_cut.specs.Cuts.{counted}
use Rattle.pcapfile_cut.specs.declared.selection.Range.{Range}
use Rattle.pcapfile_cut.specs.declared.selection.Selection.{Selection}
use Rattle.pcapfile_selected.specs.declared.blocks.judging.BlockTests.{BlockTests}
use Rattle.pcapfile_selected.specs.declared.blocks.judging.Times.{Times}
use Rattle.pcapfile_selected.specs.declared.selecting.Tests.{Tests}
use Rattle.pcapfile_selected.specs.declared.selecting.Selecting.{Selecting}
use Rattle.pcapfile_selected.specs.declared.times.Moment.{Moment}
use Rattle.pcapfile_selected.specs.declared.times.Moment.TheVariants.{BeforeLatest}
use Rattle.pcapfile_selected.specs.Judging.{IsBlockTime}
use Rattle.pcapfile_selected.specs.Moments.{is_after_first, nanoseconds_since, time_at}

-- The latest time that the tests know: that of a packet, or the first time.
abbrev pub latest_of : Tests → Timestamp → Timestamp
latest_of asked first = elim asked.latest [ None ↦ first | Some latest ↦ latest ]

-- The time of a moment, if the user names one, given the first time.
abbrev pub time_of : Tests → Option Moment → Timestamp → Option Timestamp
time_of asked moment first = option_map (λ (it : Moment). time_at it first (latest_of asked first)) moment

-- The user names a time.
abbrev pub has_times : Tests → Bool
has_times asked = is_some asked.asked.now.from || is_some asked.asked.now.until

-- The times that are tested, if the user names one, given the first time.
abbrev pub times_asked : Tests → Timestamp → Option Times
times_asked asked first =
    if has_times asked
    then Some (record { from = time_of asked asked.asked.now.from first; until = time_of asked asked.asked.now.until first })
    else None

-- The tests of blocks are those that a user asks for, given the first time.
pub record AreAsked (asked : Tests) (first : Timestamp) (tests : BlockTests) : Type 0 where
  pub numbers : tests.selection.numbers.now ≡ asked.asked.now.numbers.items
  pub lengths : tests.selection.lengths ≡ asked.asked.now.lengths
  pub filter : tests.selection.filter ≡ asked.filter
  pub dedup : tests.selection.dedup ≡ asked.asked.now.dedup
  pub changes : tests.selection.changes ≡ asked.asked.now.changes
  pub interface : tests.interface ≡ asked.asked.now.interface
  pub times : tests.times ≡ times_asked asked first

-- A moment is one after the first packet.
abbrev pub is_relative_moment : Option Moment → Bool
is_relative_moment moment = elim moment [ None ↦ false | Some it ↦ is_after_first it ]

-- A test depends on the time of the first packet.
abbrev pub is_relative : Tests → Bool
is_relative asked = is_relative_moment asked.asked.now.from || is_relative_moment asked.asked.now.until

-- A moment is one before the latest packet.
abbrev pub is_latest_moment : Option Moment → Bool
is_latest_moment (Some (BeforeLatest duration)) = true
is_latest_moment _ = false

-- A test depends on the latest time of a packet.
abbrev pub needs_latest : Selecting → Bool
needs_latest asked = is_latest_moment asked.from || is_latest_moment asked.until

-- The first time that tests are given: 1970 before a packet with a time was read.
abbrev pub first_or_1970 : Option Timestamp → Timestamp
first_or_1970 first = elim first [ None ↦ record { seconds = pos 0; nanoseconds = 0 } | Some time ↦ time ]

-- The first time after the packet of a block: its time if a test depends on it and none was known, and else the one before.
abbrev pub FindsFirst : Tests → List Interface → Framed → Option Timestamp → Option Timestamp → Type 0
FindsFirst asked interfaces block old new =
    ((IsTrue (is_some old) ⊎ (is_relative asked ≡ false)) × (new ≡ old))
    ⊎ ((old ≡ None) × IsTrue (is_relative asked) × IsBlockTime interfaces block new)

-- The nanoseconds since 1970 from which a classic capture's packets are selected.
abbrev pub from_nanoseconds : Option Timestamp → ℕ
from_nanoseconds from = elim from [ None ↦ 0 | Some time ↦ nanoseconds_since time ]

-- The nanoseconds since 1970 before which a classic capture's packets are selected.
abbrev pub until_nanoseconds : Option Timestamp → ℕ
until_nanoseconds until = elim until [ None ↦ 2 ^ 64 - 1 | Some time ↦ nanoseconds_since time ]

-- The tests of packets with these ranges of numbers, and else as a user asks, given the first time.
pub record AreAskedWith (numbers : List Range) (asked : Tests) (first : Timestamp) (selection : Selection) : Type 0 where
  pub numbers_are : selection.numbers.now ≡ numbers
  pub from : selection.from ≡ from_nanoseconds (time_of asked asked.asked.now.from first)
  pub until : selection.until ≡ until_nanoseconds (time_of asked asked.asked.now.until first)
  pub lengths : selection.lengths ≡ asked.asked.now.lengths
  pub filter : selection.filter ≡ asked.filter
  pub dedup : selection.dedup ≡ asked.asked.now.dedup
  pub changes : selection.changes ≡ asked.asked.now.changes

-- Packets of the interface with this number may be selected.
abbrev pub has_interface : Tests → ℕ → Bool
has_interface asked number = elim asked.asked.now.interface [ None ↦ true | Some wanted ↦ wanted == number ]

-- The ranges of the numbers of a classic capture's packets. All its packets are of interface 0.
abbrev pub numbers_of_packets : Tests → List Range
numbers_of_packets asked = if has_interface asked 0 then asked.asked.now.numbers.items else []

-- The tests of a classic capture's packets are those that a user asks for, given the first time.
abbrev pub AreAskedOfPackets : Tests → Timestamp → Selection → Type 0
AreAskedOfPackets asked first selection = AreAskedWith (numbers_of_packets asked) asked first selection

-- The lesser one of a known number, if there is one, and another.
abbrev pub IsLesser : Option ℕ → ℕ → ℕ → Type 0
IsLesser None n least = least ≡ n
IsLesser (Some known) n least = ((known ≤ n) × (least ≡ known)) ⊎ ((n < known) × (least ≡ n))

-- The least of these numbers is one of them, and none is less; without numbers there is none.
abbrev pub IsLeast : List ℕ → Option ℕ → Type 0
IsLeast numbers None = numbers ≡ []
IsLeast numbers (Some least) = Contains numbers least × All (λ n. least ≤ n) numbers

-- The first numbers of these ranges.
abbrev pub firsts : List Range → List ℕ
firsts = map (λ (range : Range). range.first)

-- The number is the least first number of these ranges, or 1 if there are none.
abbrev pub IsLeastFirst : List Range → ℕ → Type 0
IsLeastFirst ranges first = IsLeast (firsts ranges) (Some first) ⊎ ((ranges ≡ []) × (first ≡ 1))

-- The next block has the packet of this number or one above, if it holds a packet, and so many precede it.
abbrev pub has_reached : ℕ → Bool → ℕ → Bool
has_reached first with_packet packets = with_packet && nat_le first (counted (packets + 1))
