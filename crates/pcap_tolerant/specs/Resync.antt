-- The first place from which items follow each other again after corrupt bytes.
use Rattle.std.specs.Prelude.{◌≡◌, ◌<◌, ◌⊎◌, ℕ, zero, suc, List, [], length, drop, Option, None, Some}
use Rattle.pcap_core.specs.Answer.{whole}
use Rattle.pcap_items.specs.Format.{Format}
use Rattle.pcap_classic.specs.declared.pcap.header.PcapHeader.{PcapHeader}
use Rattle.pcap_classic.specs.PacketText.{packet_limit, Captured}
use Rattle.pcap_classic.specs.Packets.{format_under}

-- The first place before the end from which the bytes satisfy a condition, or None if there is no such place.
abbrev pub FirstPlace : (List ℕ → Type 0) → List ℕ → Option ℕ → Type 0
FirstPlace Holds s (Some n) = (n < length s) × Holds (drop n s) × ((m : ℕ) → m < n → Holds (drop m s) → ⊥)
FirstPlace Holds s None = (m : ℕ) → m < length s → Holds (drop m s) → ⊥

module _ {S V : Type 0} (f : Format S V) (IsSound : V → Type 0) where
  -- `k` sound items follow each other from the front, or fewer, at least one, to the end.
  abbrev pub Row : S → ℕ → List ℕ → Type 0
  Row q zero s = Unit {0}
  Row q (suc k) s = (v : V) × (after : List ℕ) × f.says q s (whole v after) × IsSound v × ((after ≡ []) ⊎ Row (f.goes q v) k after)

  -- The first place before the end from which a row of sound items follows, or None if there is no such place.
  abbrev pub Resyncs : S → ℕ → List ℕ → Option ℕ → Type 0
  Resyncs q k = FirstPlace (Row q k)

-- The packet has data. (Sixteen zero bytes are a packet without data.)
abbrev pub HasData : Captured → Type 0
HasData packet = 0 < packet.header.incl_len

-- `k` packets with data that break no rule follow each other from the front, or fewer, at least one, to the end.
abbrev pub PacketRow : PcapHeader → ℕ → List ℕ → Type 0
PacketRow header = Row (format_under packet_limit header) HasData tt

-- The first place before the end from which such packets follow each other, or None if there is no such place.
abbrev pub PacketsResync : PcapHeader → ℕ → List ℕ → Option ℕ → Type 0
PacketsResync header = Resyncs (format_under packet_limit header) HasData tt
