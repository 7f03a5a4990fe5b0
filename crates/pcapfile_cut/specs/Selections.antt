-- The packets that pass the tests of a selection.
use Rattle.std.specs.Prelude.{◌+◌, ◌*◌, ◌==◌, ◌&&◌, ℕ, List, Bool, true, None, Some, nat_lt, nat_le, not}
use Rattle.std.specs.List.{list_any}
use Rattle.pcap_classic.specs.declared.pcap.packet.PacketHeader.{PacketHeader}
use Rattle.pcap_classic.specs.PacketText.{Captured}
use Rattle.pcap_filter.specs.Results.{result_of}
use Rattle.pcapfile_cut.specs.declared.selection.Range.{Range}
use Rattle.pcapfile_cut.specs.declared.selection.Selection.{Selection}

-- The packet of this header and data.
abbrev pub captured : PacketHeader → List ℕ → Captured
captured head bytes = record { header = head; bytes = bytes }

-- The number is in this range.
abbrev pub is_in : Range → ℕ → Bool
is_in range number = nat_le range.first number && nat_le number range.last

-- The time of a packet in nanoseconds since 1970.
abbrev pub time_of : PacketHeader → ℕ
time_of head = head.ts_sec * 1000000000 + head.ts_nsec

-- A time is in this range: not before `from`, and before `until`.
abbrev pub is_within : ℕ → ℕ → ℕ → Bool
is_within from until time = nat_le from time && nat_lt time until

-- The program of the selection, if it has one, accepts a packet of these bytes and this length on the wire.
abbrev pub accepts : Selection → List ℕ → ℕ → Bool
accepts selection bytes original = elim selection.filter [ None ↦ true | Some filter ↦ not (result_of filter.now bytes original == 0) ]

-- The packet of this number passes all tests.
abbrev pub is_selected : Selection → ℕ → Captured → Bool
is_selected selection number packet =
    list_any (λ range. is_in range number) selection.numbers.now
    && is_within selection.from selection.until (time_of packet.header)
    && is_in selection.lengths packet.header.orig_len
    && accepts selection packet.bytes packet.header.orig_len

-- A number above this one is in a range of the selection.
abbrev pub goes_behind : Selection → ℕ → Bool
goes_behind selection number = list_any (λ range. nat_lt number range.last) selection.numbers.now
