-- This file defines the repaired form of a packet, which has no flaw.
use Rattle.std.specs.Prelude.{◌/◌, ◌%◌, ℕ, length, take, min, max, nat_lt, if◌then◌else◌}
use Rattle.pcap_classic.specs.declared.common.TsResolution.{TsResolution}
use Rattle.pcap_classic.specs.PacketText.{Head, packet_limit, nanoseconds, Captured}
use Rattle.pcap_tolerant.specs.AsIs.{AsIs}
use Rattle.pcapfile_as_is.specs.Lists.{exact_time}

-- The seconds and nanoseconds of a repaired packet: unchanged if the nanoseconds fit in 32 bits, else carried; the latest time if the
-- seconds don't fit.
abbrev pub repaired_time : TsResolution → Head → ℕ × ℕ
repaired_time r head =
    if nat_lt 4294967295 (nanoseconds r head.fraction)
    then (if nat_lt 4294967295 (exact_time r head / 1_000_000_000) then (4294967295, 999999000) else (exact_time r head / 1_000_000_000, exact_time r head % 1_000_000_000))
    else (head.seconds, nanoseconds r head.fraction)

-- The repaired packet has this time, its bytes cut to the longest packet, and an original length within the limits.
abbrev pub repaired_of : TsResolution → AsIs → Captured
repaired_of r packet =
    let bytes = take packet_limit packet.bytes in
    record {
      header = record {
        ts_sec = (repaired_time r packet.head).0;
        ts_nsec = (repaired_time r packet.head).1;
        incl_len = length bytes;
        orig_len = max (min packet.head.original packet_limit) (length bytes);
      };
      bytes = bytes;
    }
