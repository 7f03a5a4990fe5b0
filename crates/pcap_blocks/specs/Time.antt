-- Timestamps of packets and statistics ('Enhanced Packet Block', 'Interface Statistics Block').
use Rattle.std.specs.Prelude.{◌≡◌, ◌+◌, ◌*◌, ◌^◌, ℕ, List}
use Rattle.pcap_core.specs.Answer.{Order, Number}

-- `s` is a timestamp, its high 4 bytes before its low 4, and then `rest`.
pub record TimeText (order : Order) (time : ℕ) (s rest : List ℕ) : Type 0 where
  pub high : ℕ
  pub low : ℕ
  pub after_high : List ℕ
  pub high_is : Number order 4 high s after_high
  pub low_is : Number order 4 low after_high rest
  pub both : time ≡ high * 2 ^ 32 + low
