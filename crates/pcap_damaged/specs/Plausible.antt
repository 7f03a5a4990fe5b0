-- Packets that a capture may well have at a place, and what shows that packets go on there.
use Rattle.std.specs.Prelude.{◌≡◌, ◌<◌, ◌≤◌, ◌+◌, ◌⊎◌, ℕ, zero, suc, List, [], length, drop, min, Option, None, Some, nat_lt, if◌then◌else◌}
use Rattle.pcap_core.specs.Answer.{number_in, whole}
use Rattle.pcap_classic.specs.declared.pcap.header.PcapHeader.{PcapHeader}
use Rattle.pcap_classic.specs.Magic.{order_of}
use Rattle.pcap_classic.specs.HeaderText.{HeaderText}
use Rattle.pcap_classic.specs.PacketText.{packet_limit, Captured, Head, RecordHeadText}
use Rattle.pcap_classic.specs.Packets.{format_under}

-- Two times, in seconds, are at most a day apart.
pub record Near (a b : ℕ) : Type 0 where
  pub before : a ≤ b + 86400
  pub after : b ≤ a + 86400

-- The seconds are near a given time. Without one, they are larger than any length, so that a repeated number is no packet.
abbrev pub Timely : Option ℕ → ℕ → Type 0
Timely (Some time) seconds = Near time seconds
Timely None seconds = packet_limit < seconds

-- The longest data that a packet of the capture may have: the snapshot length, unless that is 0 or above the limit for packets.
abbrev pub stored_limit : PcapHeader → ℕ
stored_limit header = if nat_lt 0 header.snaplen then min header.snaplen packet_limit else packet_limit

-- A packet with data no longer than the capture stores, a fraction below a second, and a timely second.
pub record Plausible (header : PcapHeader) (time : Option ℕ) (packet : Captured) : Type 0 where
  pub some : 0 < packet.header.incl_len
  pub stored : packet.header.incl_len ≤ stored_limit header
  pub fraction : packet.header.ts_nsec < 1000000000
  pub timely : Timely time packet.header.ts_sec

-- `k` plausible packets follow each other from the front, or fewer, at least one, to the end. Each is near the one before it.
abbrev pub PlausibleRow : PcapHeader → Option ℕ → ℕ → List ℕ → Type 0
PlausibleRow header time zero s = Unit {0}
PlausibleRow header time (suc k) s = (packet : Captured) × (after : List ℕ) × (format_under packet_limit header).says tt s (whole packet after)
    × Plausible header time packet × ((after ≡ []) ⊎ PlausibleRow header (Some packet.header.ts_sec) k after)

-- `s` begins with the header of a capture of version 2.4.
pub record BeginsCapture (s : List ℕ) : Type 0 where
  pub header : PcapHeader
  pub rest : List ℕ
  pub text : HeaderText header s rest
  pub major : header.version_major ≡ 2
  pub minor : header.version_minor ≡ 4

-- One of the head's numbers is not 0.
abbrev pub IsNotZero : Head → Type 0
IsNotZero head = (0 < head.seconds) ⊎ (0 < head.fraction) ⊎ (0 < head.included) ⊎ (0 < head.original)

-- A head is near this time, is not all zero bytes, and breaks no rule by its stored length.
pub record MayFollow (time : ℕ) (head : Head) : Type 0 where
  pub stored : head.included ≤ packet_limit
  pub not_zero : IsNotZero head
  pub near : Near time head.seconds

-- `s` begins with such a head.
pub record BeginsNear (header : PcapHeader) (time : ℕ) (s : List ℕ) : Type 0 where
  pub head : Head
  pub rest : List ℕ
  pub text : RecordHeadText (number_in (order_of header.magic_number)) head s rest
  pub may : MayFollow time head

-- Packets go on at the front of `s`: the header of another capture, two packets near this time, or four near each other.
unfoldable pub GoesOn : PcapHeader → ℕ → List ℕ → Type 0
GoesOn header time s = BeginsCapture s ⊎ PlausibleRow header (Some time) 2 s ⊎ PlausibleRow header None 4 s

-- The capture ends here, or another one begins.
abbrev pub EndsHere : List ℕ → Type 0
EndsHere s = (s ≡ []) ⊎ BeginsCapture s

-- `s` may follow a packet: the end, the header of another capture, a head near this time, or four packets near each other.
unfoldable pub Follows : PcapHeader → ℕ → List ℕ → Type 0
Follows header time s = EndsHere s ⊎ BeginsNear header time s ⊎ PlausibleRow header None 4 s

-- The first place before `bound` and before the end from which the bytes satisfy a condition, or None if there is no such place.
abbrev pub FirstBefore : (List ℕ → Type 0) → ℕ → List ℕ → Option ℕ → Type 0
FirstBefore Holds bound s (Some n) = (n < bound) × (n < length s) × Holds (drop n s) × ((m : ℕ) → m < n → Holds (drop m s) → ⊥)
FirstBefore Holds bound s None = (m : ℕ) → m < bound → m < length s → Holds (drop m s) → ⊥
