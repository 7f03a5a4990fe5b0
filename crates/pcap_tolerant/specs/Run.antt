-- The results of a lenient run over a whole slice of a classic capture.
use Rattle.std.specs.Prelude.{◌≡◌, ◌+◌, ℕ, List, ◌∷◌, length, map, Bool}
use Rattle.pcap_items.specs.declared.rest.Rest.{Rest}
use Rattle.pcap_core.specs.Answer.{number_in}
use Rattle.pcap_items.specs.Format.{Format, Front}
use Rattle.pcap_items.specs.Run.{IsRest}
use Rattle.pcap_classic.specs.declared.pcap.header.PcapHeader.{PcapHeader}
use Rattle.pcap_classic.specs.HeaderText.{HeaderText}
use Rattle.pcap_classic.specs.Magic.{order_of, resolution_of}
use Rattle.pcap_classic.specs.Parser.{header_of}
use Rattle.pcap_tolerant.specs.declared.as_is.PacketAsIs.{PacketAsIs}
use Rattle.pcap_tolerant.specs.declared.run.ParserAsIs.{ParserAsIs}
use Rattle.pcap_tolerant.specs.declared.run.PcapRunAsIs.{PcapRunAsIs}
use Rattle.pcap_tolerant.specs.AsIs.{AsIs, raised, breaks_one, as_it_is, as_is_format}

-- The packet breaks a rule.
abbrev pub is_flawed : PacketAsIs → Bool
is_flawed packet = breaks_one packet.flaws

-- The format of packets of at most `limit` bytes behind this header, read leniently.
abbrev pub as_is_under : ℕ → PcapHeader → Format (Unit {0}) AsIs
as_is_under limit header = as_is_format (raised limit) (number_in (order_of header.magic_number)) (resolution_of header.magic_number)

-- A header, and the caller's limit.
pub record Setting : Type 0 where
  pub header : PcapHeader
  pub limit : ℕ

-- The format of packets read leniently, with any header and any limit as its state.
abbrev pub any_as_is : Format Setting AsIs
any_as_is = record { says = λ setting. (as_is_under setting.limit setting.header).says tt; goes = λ setting packet. setting; head = λ setting. 16 }

-- The header and the limit of a parser.
abbrev pub setting_of : ParserAsIs → Setting
setting_of p = record { header = header_of p.parser; limit = p.limit }

-- `s` is the header's text, the texts of these packets read leniently and `rest`, and no packet's text begins `rest`.
pub record FrontAsIs (limit : ℕ) (header : PcapHeader) (packets : List AsIs) (s rest : List ℕ) : Type 0 where
  pub after : List ℕ
  pub header_text : HeaderText header s after
  pub front : Front (as_is_under limit header) tt packets after rest

-- `s` is this header, these packets read leniently and a rest: the first two take `count` bytes, and `said` is the state of the rest.
pub record RunsAsIs (limit : ℕ) (header : PcapHeader) (packets : List AsIs) (count : ℕ) (said : Rest) (s : List ℕ) : Type 0 where
  pub left : List ℕ
  pub front : FrontAsIs limit header packets s left
  pub used : count + length left ≡ length s
  pub rest : IsRest ((as_is_under limit header).says tt) left said

-- The run is the front of `s`: its header and packets, their length, and the state of its rest.
abbrev pub IsRunAsIs : ℕ → PcapRunAsIs → List ℕ → Type 0
IsRunAsIs limit run = RunsAsIs limit run.header (map as_it_is run.packets.items) run.used run.rest

-- A header and at least one packet read leniently are in the front of `s`.
abbrev pub HasPacketAsIs : ℕ → List ℕ → Type 0
HasPacketAsIs limit s = (header : PcapHeader) × (first : AsIs) × (packets : List AsIs) × (rest : List ℕ) × FrontAsIs limit header (first ∷ packets) s rest
