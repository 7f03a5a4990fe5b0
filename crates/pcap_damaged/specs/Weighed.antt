-- What a packet's head is worth, by the bytes behind it.
use Rattle.std.specs.Prelude.{◌≡◌, ◌<◌, ◌≤◌, ◌+◌, ◌⊎◌, ℕ, List, length, drop, min, true}
use Rattle.pcap_classic.specs.declared.pcap.header.PcapHeader.{PcapHeader}
use Rattle.pcap_classic.specs.Magic.{order_of, resolution_of}
use Rattle.pcap_classic.specs.PacketText.{packet_limit, Head, RecordHeadText, nanoseconds}
use Rattle.pcap_core.specs.Answer.{number_in}
use Rattle.pcap_tolerant.specs.AsIs.{flaws_of, breaks_one}
use Rattle.pcap_damaged.specs.declared.weight.Weight.{Weight}
use Rattle.pcap_damaged.specs.declared.weight.Weight.TheVariants.{Stands, Length, Wrong, Short}
use Rattle.pcap_damaged.specs.Plausible.{Follows, GoesOn, Near, stored_limit}

-- Behind a head, `n` bytes of data end where the end, a header or a packet follows.
pub record EndsWell (header : PcapHeader) (time n : ℕ) (s : List ℕ) : Type 0 where
  pub inside : 16 + n ≤ length s
  pub follows : Follows header time (drop (16 + n) s)

-- The packet of this head has no data, is longer than the capture stores, or breaks a rule.
abbrev pub Doubtful : PcapHeader → Head → Type 0
Doubtful header head = (head.included ≡ 0) ⊎ (stored_limit header < head.included) ⊎ (breaks_one (flaws_of (resolution_of header.magic_number) head) ≡ true)

-- A packet of this head may have `n` bytes of data: it is near this time, its capture stores as many, and its original length, if that
-- breaks no rule, is no shorter.
pub record CanBe (header : PcapHeader) (time : ℕ) (head : Head) (n : ℕ) : Type 0 where
  pub some : 0 < n
  pub stored : n ≤ stored_limit header
  pub fraction : nanoseconds (resolution_of header.magic_number) head.fraction < 1000000000
  pub near : Near time head.seconds
  pub original : (n ≤ head.original) ⊎ (packet_limit < head.original)

-- The length of the whole packet of this head, or of as much of it as its capture stores.
abbrev pub whole_length : PcapHeader → Head → ℕ
whole_length header head = min head.original (stored_limit header)

-- The data have this length: it ends well, and it can be the length.
pub record WholeEndsWell (header : PcapHeader) (time : ℕ) (head : Head) (s : List ℕ) : Type 0 where
  pub can : CanBe header time head (whole_length header head)
  pub ends : EndsWell header time (whole_length header head) s

-- Packets go on inside the data that the head claims.
abbrev pub GoesOnWithin : PcapHeader → ℕ → ℕ → List ℕ → Type 0
GoesOnWithin header time n bytes = (m : ℕ) × (m < n) × (m < length bytes) × GoesOn header time (drop m bytes)

-- The head is doubtful, or packets go on inside its data.
abbrev pub Opposed : PcapHeader → ℕ → Head → List ℕ → Type 0
Opposed header time head bytes = Doubtful header head ⊎ GoesOnWithin header time head.included bytes

-- The stored length does not end well, nor does that of the whole packet.
pub record EndsNowhere (header : PcapHeader) (time : ℕ) (head : Head) (s : List ℕ) : Type 0 where
  pub stored : EndsWell header time head.included s → ⊥
  pub whole : WholeEndsWell header time head s → ⊥

-- Nothing shows where the packet ends, and nothing opposes its head.
pub record Unopposed (header : PcapHeader) (time : ℕ) (head : Head) (s bytes : List ℕ) : Type 0 where
  pub nowhere : EndsNowhere header time head s
  pub unopposed : Opposed header time head bytes → ⊥

-- The weight of the head of `s`, behind which these bytes follow.
abbrev pub IsWeight : PcapHeader → ℕ → Head → List ℕ → List ℕ → Weight → Type 0
IsWeight header time head s bytes Stands = EndsWell header time head.included s ⊎ (Unopposed header time head s bytes × (16 + head.included ≤ length s))
IsWeight header time head s bytes (Length n) = (EndsWell header time head.included s → ⊥) × WholeEndsWell header time head s × (n ≡ whole_length header head)
IsWeight header time head s bytes Wrong = EndsNowhere header time head s × Opposed header time head bytes
IsWeight header time head s bytes Short = Unopposed header time head s bytes × (length s < 16 + head.included)

-- The weight of the packet at the front of `s`: that of its head, or Short if the head itself is truncated.
abbrev pub Weighs : PcapHeader → ℕ → List ℕ → Weight → Type 0
Weighs header time s weight = ((length s < 16) × (weight ≡ Short))
    ⊎ ((head : Head) × (bytes : List ℕ) × RecordHeadText (number_in (order_of header.magic_number)) head s bytes × IsWeight header time head s bytes weight)

-- `s` begins with a head whose packet may have `n` bytes of data.
pub record HeadCanBe (header : PcapHeader) (time : ℕ) (s : List ℕ) (n : ℕ) : Type 0 where
  pub head : Head
  pub rest : List ℕ
  pub text : RecordHeadText (number_in (order_of header.magic_number)) head s rest
  pub can : CanBe header time head n
