-- A lemma about units of time.
use Rattle.std.proofs.Common.{◌^◌, ◌<◌, ◌≤◌, arith, lit<}
use Rattle.std.proofs.Math.Nat.{one-le-pow}
use Rattle.pcap_times.specs.declared.unit.TimeUnit.{TimeUnit}
use Rattle.pcap_times.specs.declared.unit.TimeUnit.TheVariants.{Decimal, Binary}
use Rattle.pcap_times.specs.Times.{units_in_second}

-- a second has at least one unit
pub some_units : (unit : TimeUnit) → 0 < units_in_second unit
some_units (Decimal n) = let least : 1 ≤ 10 ^ n = one-le-pow n 10 (lit< tt) in omega arith
some_units (Binary n) = let least : 1 ≤ 2 ^ n = one-le-pow n 2 (lit< tt) in omega arith
