-- What is at the front of the bytes of a damaged capture that have come so far.
use Rattle.std.specs.Prelude.{◌≡◌, ◌<◌, ◌≤◌, ◌+◌, ◌⊎◌, ℕ, List, length, drop, Bool, true, false, Option, Some, None}
use Rattle.pcap_core.specs.Answer.{number_in}
use Rattle.pcap_classic.specs.declared.pcap.header.PcapHeader.{PcapHeader}
use Rattle.pcap_classic.specs.Magic.{order_of}
use Rattle.pcap_classic.specs.PacketText.{packet_limit, Head, RecordHeadText}
use Rattle.pcap_damaged.specs.declared.judged.Judged.{Judged}
use Rattle.pcap_damaged.specs.declared.judged.Judged.TheVariants.{Packet, Length, Gap, Corrupt, Missing}
use Rattle.pcap_damaged.specs.declared.weight.Weight.TheVariants as weight
use Rattle.pcap_damaged.specs.declared.weight.Weight.TheVariants.{Stands, Wrong, Short}
use Rattle.pcap_damaged.specs.Lengths.{FollowByLength}
use Rattle.pcap_damaged.specs.Plausible.{BeginsNear, FirstBefore, Follows, GoesOn}
use Rattle.pcap_damaged.specs.Weighed.{CanBe, Weighs, whole_length}

-- The packet at the front of `s` has a wrong length, and packets first go on inside it behind so many bytes after its first one, or nowhere.
pub record WrongUpTo (header : PcapHeader) (time : ℕ) (s : List ℕ) (inside : Option ℕ) : Type 0 where
  pub weight : Weighs header time s Wrong
  pub head : Head
  pub bytes : List ℕ
  pub text : RecordHeadText (number_in (order_of header.magic_number)) head s bytes
  pub first : FirstBefore (GoesOn header time) (head.included + 15) (drop 1 s) inside

-- The first packet of `s` has a wrong length, no packets go on inside it, and its head has this property.
abbrev pub IsWrongAlone : PcapHeader → ℕ → List ℕ → (Head → Type 0) → Type 0
IsWrongAlone header time s Has = (wrong : WrongUpTo header time s None) × Has wrong.head

-- A packet of a wrong length counts as one if it has data, or if packets follow it by their lengths.
abbrev pub Counts : PcapHeader → List ℕ → Head → Type 0
Counts header s head = (0 < head.included) ⊎ FollowByLength header 4 s

-- The front of `s`, if the bytes in it are enough: a packet, one of another length, a gap, corrupt bytes. A packet of a wrong length without packets inside it
-- may count as one.
abbrev pub IsJudged : PcapHeader → ℕ → List ℕ → Judged → Type 0
IsJudged header time s Packet = Weighs header time s Stands ⊎ IsWrongAlone header time s (Counts header s)
IsJudged header time s (Length n) = Weighs header time s (weight.Length n)
IsJudged header time s (Gap n) = (place : ℕ) × WrongUpTo header time s (Some place) × (n ≡ place + 1)
IsJudged header time s Corrupt = Weighs header time s Short ⊎ IsWrongAlone header time s (λ head. Counts header s head → ⊥)
IsJudged header time s (Missing n) = ⊥

-- Behind so many bytes of data, the next head is near this time, or the longest row of four packets ends.
abbrev pub IsShownBehind : PcapHeader → ℕ → ℕ → List ℕ → Type 0
IsShownBehind header time size bytes =
    (size + 16 ≤ length bytes) × ((size + 1048640 ≤ length bytes) ⊎ BeginsNear header time (drop size bytes))

-- Behind so many bytes of data, something follows that may follow a packet.
abbrev pub IsFollowed : PcapHeader → ℕ → ℕ → List ℕ → Type 0
IsFollowed header time size bytes = (size ≤ length bytes) × Follows header time (drop size bytes)

-- A stored length above the limit whose bytes are not all there, and a packet that may be whole.
abbrev pub MayBeOverlong : PcapHeader → ℕ → Head → List ℕ → Type 0
MayBeOverlong header time head bytes =
    (packet_limit < head.included) × (length bytes < head.included) × CanBe header time head (whole_length header head)

-- The bytes do not show yet whether such a packet is whole.
abbrev pub WaitsForWhole : PcapHeader → ℕ → Head → List ℕ → Type 0
WaitsForWhole header time head bytes = MayBeOverlong header time head bytes × (IsShownBehind header time (whole_length header head) bytes → ⊥)

-- Such a packet is whole, and the bytes show it, or nothing follows them.
abbrev pub OverlongHead : PcapHeader → ℕ → Bool → Head → List ℕ → Type 0
OverlongHead header time all head bytes = MayBeOverlong header time head bytes
    × ((all ≡ true) ⊎ IsShownBehind header time (whole_length header head) bytes) × IsFollowed header time (whole_length header head) bytes

-- The packet at the front of `s` has such a head, and `n` bytes of data.
pub record IsOverlong (header : PcapHeader) (time : ℕ) (all : Bool) (s : List ℕ) (n : ℕ) : Type 0 where
  pub head : Head
  pub bytes : List ℕ
  pub text : RecordHeadText (number_in (order_of header.magic_number)) head s bytes
  pub overlong : OverlongHead header time all head bytes
  pub length : n ≡ whole_length header head

-- No head, or another one, is at the front of `s`.
abbrev pub NotOverlong : PcapHeader → ℕ → Bool → List ℕ → Type 0
NotOverlong header time all s = (length s < 16)
    ⊎ ((head : Head) × (bytes : List ℕ) × RecordHeadText (number_in (order_of header.magic_number)) head s bytes × (OverlongHead header time all head bytes → ⊥))

-- The bytes of `s` show what is behind the packet at its front.
pub record IsShown (header : PcapHeader) (time : ℕ) (s : List ℕ) : Type 0 where
  pub head : Head
  pub bytes : List ℕ
  pub text : RecordHeadText (number_in (order_of header.magic_number)) head s bytes
  pub behind : IsShownBehind header time head.included bytes

-- Behind so many bytes of data, so many bytes are missing: of the next head, or if that is there, of the longest row of four packets.
abbrev pub LacksBehind : ℕ → List ℕ → ℕ → Type 0
LacksBehind size bytes n = ((length bytes < size + 16) × (length bytes + n ≡ size + 16))
    ⊎ ((size + 16 ≤ length bytes) × (length bytes < size + 1048640) × (length bytes + n ≡ size + 1048640))

-- So many bytes are missing behind the whole packet of this head, or else behind its stored length.
abbrev pub LacksBehindHead : PcapHeader → ℕ → Head → List ℕ → ℕ → Type 0
LacksBehindHead header time head bytes n = (WaitsForWhole header time head bytes × LacksBehind (whole_length header head) bytes n)
    ⊎ ((WaitsForWhole header time head bytes → ⊥) × (IsShownBehind header time head.included bytes → ⊥) × LacksBehind head.included bytes n)

-- So many bytes are missing from those that show what is at the front of `s`.
abbrev pub Lacks : PcapHeader → ℕ → List ℕ → ℕ → Type 0
Lacks header time s n = ((length s < 16) × (length s + n ≡ 16))
    ⊎ ((head : Head) × (bytes : List ℕ) × RecordHeadText (number_in (order_of header.magic_number)) head s bytes × LacksBehindHead header time head bytes n)

-- Nothing follows `s`, or its bytes show what is at its front.
abbrev pub IsEnough : PcapHeader → ℕ → Bool → List ℕ → Type 0
IsEnough header time all s = (all ≡ true) ⊎ IsShown header time s

-- What is known of the front of `s`: a result if its bytes are enough, and otherwise how many bytes are missing. That a packet is whole
-- against a stored length above the limit is known without the stored bytes.
abbrev pub Judges : PcapHeader → ℕ → Bool → List ℕ → Judged → Type 0
Judges header time all s (Missing n) = (all ≡ false) × NotOverlong header time all s × Lacks header time s n
Judges header time all s (Length n) = IsOverlong header time all s n ⊎ (IsEnough header time all s × IsJudged header time s (Length n))
Judges header time all s judged = NotOverlong header time all s × IsEnough header time all s × IsJudged header time s judged
