-- Packets that get another time.
use Rattle.std.specs.Prelude.{◌+◌, ◌-◌, ◌*◌, ◌/◌, ◌%◌, ◌^◌, ◌==◌, ◌&&◌, ℕ, Bool, true, Option, None, Some, nat_lt, nat_le, if◌then◌else◌}
use Rattle.pcap_classic.specs.declared.common.TsResolution.{TsResolution}
use Rattle.pcap_classic.specs.declared.common.TsResolution.TheVariants.{MicroSecond, NanoSecond}
use Rattle.pcap_classic.specs.declared.pcap.packet.PacketHeader.{PacketHeader}
use Rattle.pcapfile_cut.specs.declared.moving.Shift.{Shift}
use Rattle.pcapfile_cut.specs.declared.moving.Shift.TheVariants.{Later, Earlier}
use Rattle.pcapfile_cut.specs.Selections.{time_of}

-- A time that is later or earlier by so many units. None if it is below 0 or needs more than 64 bits.
abbrev pub moved_by : Shift → ℕ → Option ℕ
moved_by (Later n) time = if nat_lt (time + n) (2 ^ 64) then Some (time + n) else None
moved_by (Earlier n) time = if nat_le n time then Some (time - n) else None

-- A time in nanoseconds is a whole number of units of this resolution.
abbrev pub is_in_units : TsResolution → ℕ → Bool
is_in_units MicroSecond time = time % 1000 == 0
is_in_units NanoSecond time = true

-- A packet of this resolution can have this time in nanoseconds: it is a whole number of units, and its seconds fit 32 bits (pcap draft,
-- 'Packet Record').
abbrev pub can_state : TsResolution → ℕ → Bool
can_state resolution time = is_in_units resolution time && nat_lt time (2 ^ 32 * 1000000000)

-- The header with this time in nanoseconds.
abbrev pub at_time : PacketHeader → ℕ → PacketHeader
at_time head time = record { ts_sec = time / 1000000000; ts_nsec = time % 1000000000; incl_len = head.incl_len; orig_len = head.orig_len }

-- The header with this time, if a packet of this resolution can have it.
abbrev pub stated_at : TsResolution → PacketHeader → Option ℕ → Option PacketHeader
stated_at resolution head None = None
stated_at resolution head (Some time) = if can_state resolution time then Some (at_time head time) else None

-- The header with the moved time, if a packet of this resolution can have it.
abbrev pub moved : TsResolution → Shift → PacketHeader → Option PacketHeader
moved resolution shift head = stated_at resolution head (moved_by shift (time_of head))
