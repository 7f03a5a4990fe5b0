-- The text of a packet, its missing bytes, and its faults ('Packet Record').
use Rattle.std.specs.Prelude.{◌≡◌, ◌<◌, ◌≤◌, ◌+◌, ◌*◌, ◌⊎◌, ℕ, List, ◌++◌, length, Option, Some, None, nat_lt, if◌then◌else◌}
use Rattle.pcap_classic.specs.declared.common.TsResolution.{TsResolution}
use Rattle.pcap_classic.specs.declared.common.TsResolution.TheVariants.{MicroSecond, NanoSecond}
use Rattle.pcap_classic.specs.declared.pcap.packet.PacketHeader.{PacketHeader}
use Rattle.pcap_classic.specs.declared.pcap.packet.Packet.{Packet}
use Rattle.pcap_core.specs.Bytes.{cow_bytes}
use Rattle.pcap_core.specs.declared.rules.Rule.TheVariants.{FractionTooLarge, IncludedTooLong, OriginalTooLong, IncludedPastOriginal}
use Rattle.pcap_core.specs.Answer.{Order, Number, Verdict, Says}
use Rattle.pcap_core.specs.Faults.{Fault, Invalid}

-- The largest valid length of a packet, in bytes.
abbrev pub packet_limit : ℕ
packet_limit = 262144

-- The four numbers before a packet's data, with the fraction of the second as it is in the bytes.
pub record Head : Type 0 where
  pub seconds : ℕ
  pub fraction : ℕ
  pub included : ℕ
  pub original : ℕ

-- s is the four numbers of a head, and then rest.
pub record RecordHeadText (order : Order) (head : Head) (s rest : List ℕ) : Type 0 where
  pub after_seconds : List ℕ
  pub after_fraction : List ℕ
  pub after_included : List ℕ
  pub seconds : Number order 4 head.seconds s after_seconds
  pub fraction : Number order 4 head.fraction after_seconds after_fraction
  pub included : Number order 4 head.included after_fraction after_included
  pub original : Number order 4 head.original after_included rest

-- The nanoseconds of a fraction.
abbrev pub nanoseconds : TsResolution → ℕ → ℕ
nanoseconds MicroSecond fraction = 1000 * fraction
nanoseconds NanoSecond fraction = fraction

-- The packet header of a head.
abbrev pub spelled_header : TsResolution → Head → PacketHeader
spelled_header r head = record { ts_sec = head.seconds; ts_nsec = nanoseconds r head.fraction; incl_len = head.included; orig_len = head.original }

-- The head has no fault.
pub record IsGood (limit : ℕ) (r : TsResolution) (head : Head) : Type 0 where
  pub fraction : nanoseconds r head.fraction ≤ 4294967295
  pub included : head.included ≤ head.original
  pub original : head.original ≤ limit

-- The first fault of a head, if it has one.
abbrev pub head_fault : ℕ → TsResolution → Head → Option Fault
head_fault limit r head =
    if nat_lt 4294967295 (nanoseconds r head.fraction) then Some (Invalid FractionTooLarge)
    else if nat_lt limit head.included then Some (Invalid IncludedTooLong)
    else if nat_lt limit head.original then Some (Invalid OriginalTooLong)
    else if nat_lt head.original head.included then Some (Invalid IncludedPastOriginal)
    else None

-- The first fault of the head is this one.
abbrev pub IsHeadFault : ℕ → TsResolution → Head → Fault → Type 0
IsHeadFault limit r head fault = head_fault limit r head ≡ Some fault

-- s is the text of a packet's header, and then rest.
pub record PacketHeaderText (limit : ℕ) (order : Order) (r : TsResolution) (header : PacketHeader) (s rest : List ℕ) : Type 0 where
  pub head : Head
  pub text : RecordHeadText order head s rest
  pub good : IsGood limit r head
  pub value : header ≡ spelled_header r head

-- s is a truncated head: n more bytes make 16.
pub record LacksHead (s : List ℕ) (n : ℕ) : Type 0 where
  pub some : 0 < n
  pub missing : length s + n ≡ 16

-- s begins with a head of this fault.
pub record HasHeadFault (limit : ℕ) (order : Order) (r : TsResolution) (s : List ℕ) (fault : Fault) : Type 0 where
  pub head : Head
  pub after : List ℕ
  pub text : RecordHeadText order head s after
  pub first : IsHeadFault limit r head fault

-- A packet, regardless of where its bytes are in memory.
pub record Captured : Type 0 where
  pub header : PacketHeader
  pub bytes : List ℕ

-- The header and the bytes of a packet, whether borrowed or owned.
abbrev pub content_of : Packet → Captured
content_of packet = record { header = packet.header; bytes = cow_bytes packet.data_ }

-- s is the text of a packet, and then rest.
pub record PacketText (limit : ℕ) (order : Order) (r : TsResolution) (packet : Captured) (s rest : List ℕ) : Type 0 where
  pub after : List ℕ
  pub header : PacketHeaderText limit order r packet.header s after
  pub data_is : after ≡ packet.bytes ++ rest
  pub whole : length packet.bytes ≡ packet.header.incl_len

-- s has a good head, and n bytes of its data are missing.
pub record LacksData (limit : ℕ) (order : Order) (r : TsResolution) (s : List ℕ) (n : ℕ) : Type 0 where
  pub header : PacketHeader
  pub after : List ℕ
  pub text : PacketHeaderText limit order r header s after
  pub some : 0 < n
  pub missing : length after + n ≡ header.incl_len

-- n bytes of a packet are missing: of its head, or else of its data.
abbrev pub LacksPacket : ℕ → Order → TsResolution → List ℕ → ℕ → Type 0
LacksPacket limit order r s n = LacksHead s n ⊎ LacksData limit order r s n

-- The grammar's verdict on a packet's header at the front of s.
abbrev pub PacketHeaderSays : ℕ → Order → TsResolution → List ℕ → Verdict PacketHeader → Type 0
PacketHeaderSays limit order r s = Says (λ header rest. PacketHeaderText limit order r header s rest) (LacksHead s) (HasHeadFault limit order r s)

-- The grammar's verdict on a packet at the front of s.
abbrev pub PacketSays : ℕ → Order → TsResolution → List ℕ → Verdict Captured → Type 0
PacketSays limit order r s = Says (λ packet rest. PacketText limit order r packet s rest) (LacksPacket limit order r s) (HasHeadFault limit order r s)
