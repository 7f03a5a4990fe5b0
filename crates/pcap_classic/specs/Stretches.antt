-- The part of a buffer that a copy writes directly.
use Rattle.std.specs.Prelude.{◌≡◌, ◌<◌, ◌≤◌, ◌⊎◌, ℕ, List, length, Bool, true, Option, None, Some}
use Rattle.std.specs.List.{flat_map}
use Rattle.std.specs.Io.KnownBytes.{Appends}
use Rattle.pcap_core.specs.declared.errors.PcapError.{PcapError}
use Rattle.pcap_core.specs.Answer.{whole}
use Rattle.pcap_core.specs.Errors.{IsIo}
use Rattle.pcap_items.specs.Format.{Texts}
use Rattle.pcap_items.specs.Writing.{AppendsPart}
use Rattle.pcap_classic.specs.declared.pcap.header.PcapHeader.{PcapHeader}
use Rattle.pcap_classic.specs.Copies.{PacketIsSaid}
use Rattle.pcap_classic.specs.Packets.{format_under}
use Rattle.pcap_classic.specs.PacketText.{Captured, packet_limit}

-- The bytes begin with n whole packets and then rest: the first `most`, or all whole packets.
pub record TakesWhole (header : PcapHeader) (bytes rest : List ℕ) (most n : ℕ) : Type 0 where
  pub packets : List Captured
  pub count : length packets ≡ n
  pub texts : Texts (format_under packet_limit header) tt packets bytes rest
  pub within : n ≤ most
  pub stops : (n ≡ most) ⊎ ((packet : Captured) (after : List ℕ) → PacketIsSaid header rest (whole packet after) → ⊥)

-- The bytes begin with n whole packets and then rest, and the texts of these packets were written.
pub record SendsWhole (header : PcapHeader) (text : Captured → List ℕ) (bytes rest : List ℕ) (before after : Option (List ℕ)) (n : ℕ) : Type 0 where
  pub packets : List Captured
  pub count : length packets ≡ n
  pub texts : Texts (format_under packet_limit header) tt packets bytes rest
  pub out : Appends before after (flat_map text packets)

-- After n whole packets, a write failed in the text of the next packet, which comes before the rest.
pub record SendsTorn (header : PcapHeader) (text : Captured → List ℕ) (bytes rest : List ℕ) (before after : Option (List ℕ)) (n : ℕ) : Type 0 where
  pub middle : List ℕ
  pub mid : Option (List ℕ)
  pub whole_ones : SendsWhole header text bytes middle before mid n
  pub packet : Captured
  pub next : PacketIsSaid header middle (whole packet rest)
  pub out : AppendsPart mid after (text packet)

-- The part of a buffer that was written: at most `most` whole packets; or fewer, and a beginning of the next, if a write failed.
abbrev pub Sends : PcapHeader → (Captured → List ℕ) → List ℕ → List ℕ → Option (List ℕ) → Option (List ℕ) → ℕ → ℕ → Bool → Bool → Option PcapError → Type 0
Sends header text bytes rest before after most n old new None = SendsWhole header text bytes rest before after n × (n ≤ most) × (new ≡ old)
Sends header text bytes rest before after most n old new (Some e) =
    SendsTorn header text bytes rest before after n × (n < most) × IsIo e × (new ≡ true)
