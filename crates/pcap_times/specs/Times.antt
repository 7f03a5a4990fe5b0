-- Times of PcapNg captures ('Interface Description Block', if_tsresol and if_tsoffset).
use Rattle.std.specs.Prelude.{◌≡◌, ◌+◌, ◌-◌, ◌*◌, ◌/◌, ◌^◌, ◌<◌, ℕ, nat_lt, if◌then◌else◌, pos, ◌+ℤ◌}
use Rattle.pcap_times.specs.declared.unit.TimeUnit.{TimeUnit}
use Rattle.pcap_times.specs.declared.unit.TimeUnit.TheVariants.{Decimal, Binary}
use Rattle.pcap_times.specs.declared.clock.Clock.{Clock}
use Rattle.pcap_times.specs.declared.clock.Timestamp.{Timestamp}

-- unit_of gives the unit that a byte names: a power of 10 for a byte below 128, or else a power of 2 with the byte less 128.
abbrev pub unit_of : ℕ → TimeUnit
unit_of byte = if nat_lt byte 128 then Decimal byte else Binary (byte - 128)

-- units_in_second gives the number of units in a second.
abbrev pub units_in_second : TimeUnit → ℕ
units_in_second (Decimal n) = 10 ^ n
units_in_second (Binary n) = 2 ^ n

-- nanoseconds_in gives the whole nanoseconds in this many units.
abbrev pub nanoseconds_in : TimeUnit → ℕ → ℕ
nanoseconds_in unit ticks = ticks * 10 ^ 9 / units_in_second unit

-- IsSplit unit ticks seconds nanoseconds: the seconds and nanoseconds together are the whole nanoseconds in `ticks` units, and the
-- nanoseconds are less than a second.
pub record IsSplit (unit : TimeUnit) (ticks seconds nanoseconds : ℕ) : Type 0 where
  pub together : seconds * 10 ^ 9 + nanoseconds ≡ nanoseconds_in unit ticks
  pub no_second_more : nanoseconds < 10 ^ 9

-- IsTimeOf clock ticks time: `time` is the time of `ticks` units of the clock, moved by the seconds of the clock's offset.
pub record IsTimeOf (clock : Clock) (ticks : ℕ) (time : Timestamp) : Type 0 where
  pub counted : ℕ
  pub split : IsSplit clock.unit ticks counted time.nanoseconds
  pub moved : time.seconds ≡ pos counted +ℤ clock.offset
