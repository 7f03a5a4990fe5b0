-- The number of stored bytes of a simple packet ('Simple Packet Block').
use Rattle.std.specs.Prelude.{◌==◌, if◌then◌else◌, ℕ, min}

-- The number of stored bytes of a packet with this original length under this snapshot length, where 0 is no limit.
abbrev pub stored_len : ℕ → ℕ → ℕ
stored_len original snaplen = if snaplen == 0 then original else min original snaplen
