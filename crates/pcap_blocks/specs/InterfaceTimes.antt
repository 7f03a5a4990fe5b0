-- Times as an interface counts them ('Interface Description Block', if_tsresol and if_tsoffset).
use Rattle.std.specs.Prelude.{◌≡◌, ℕ, unwrap_or}
use Rattle.std.specs.Int.{w64, cast_signed}
use Rattle.pcap_times.specs.Times.{unit_of, IsTimeOf}
use Rattle.pcap_times.specs.declared.clock.Clock.{Clock}
use Rattle.pcap_times.specs.declared.clock.Timestamp.{Timestamp}
use Rattle.pcap_blocks.specs.InterfaceDescription.{Interface}
use Rattle.pcap_options.specs.Held.{number_in, first_under}

-- The clock of an interface has the unit of its first if_tsresol, or microseconds, and the offset of its first if_tsoffset, or 0.
pub record IsClockOf (interface : Interface) (clock : Clock) : Type 0 where
  pub unit : clock.unit ≡ unit_of (unwrap_or (first_under 9 number_in interface.options) 6)
  pub offset : clock.offset ≡ cast_signed w64 (unwrap_or (first_under 14 number_in interface.options) 0)

-- The time at which the interface's clock has counted this many units.
pub record IsTimeAt (interface : Interface) (units : ℕ) (time : Timestamp) : Type 0 where
  pub clock : Clock
  pub clock_is : IsClockOf interface clock
  pub time_is : IsTimeOf clock units time
