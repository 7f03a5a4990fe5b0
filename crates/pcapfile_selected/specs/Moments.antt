-- The times that a user names (they are no part of the format's draft).
use Rattle.std.specs.Prelude.{◌+◌, ◌*◌, ◌-◌, ◌^◌, ℕ, ℤ, pos, negsuc, ◌+ℤ◌, ◌-ℤ◌, min, Bool, true, false, unsigned_abs}
use Rattle.std.specs.Int.{w128, saturate_signed, int_div_euclid, int_rem_euclid}
use Rattle.pcap_times.specs.declared.clock.Timestamp.{Timestamp}
use Rattle.pcapfile_selected.specs.declared.times.Moment.{Moment}
use Rattle.pcapfile_selected.specs.declared.times.Moment.TheVariants.{At, AfterFirst, BeforeLatest}

-- The number of seconds that a time can have and that is nearest to this one.
abbrev pub nearest : ℤ → ℤ
nearest seconds = saturate_signed w128 seconds

-- The time of so many seconds and nanoseconds. The nanoseconds may be negative, or a second and more: whole seconds of them are carried.
abbrev pub time_with : ℤ → ℤ → Timestamp
time_with seconds nanoseconds = record {
  seconds = nearest (seconds +ℤ int_div_euclid nanoseconds (pos (10 ^ 9)));
  nanoseconds = unsigned_abs (int_rem_euclid nanoseconds (pos (10 ^ 9)));
}

-- The time that is later than another one by a duration.
abbrev pub later : Timestamp → Timestamp → Timestamp
later time duration = time_with (nearest (time.seconds +ℤ duration.seconds)) (pos time.nanoseconds +ℤ pos duration.nanoseconds)

-- The time that is earlier than another one by a duration.
abbrev pub earlier : Timestamp → Timestamp → Timestamp
earlier time duration = time_with (nearest (time.seconds -ℤ duration.seconds)) (pos time.nanoseconds -ℤ pos duration.nanoseconds)

-- The time of a moment, given the time of the first packet and the latest time of a packet.
abbrev pub time_at : Moment → Timestamp → Timestamp → Timestamp
time_at (At time) first latest = time
time_at (AfterFirst duration) first latest = later first duration
time_at (BeforeLatest duration) first latest = earlier latest duration

-- A moment depends on the time of the first packet.
abbrev pub is_after_first : Moment → Bool
is_after_first (AfterFirst duration) = true
is_after_first _ = false

-- A time as nanoseconds since 1970: 0 for an earlier time, and 2^64 - 1 for one that is too late.
abbrev pub nanoseconds_since : Timestamp → ℕ
nanoseconds_since time = elim time.seconds [ pos n ↦ min (n * 10 ^ 9 + time.nanoseconds) (2 ^ 64 - 1) | negsuc n ↦ 0 ]
