-- The results of a lenient run over a classic capture that comes in pieces.
use Rattle.std.specs.Prelude.{◌≡◌, ◌⊎◌, ℕ, List, length, map}
use Rattle.pcap_core.specs.Answer.{Verdict, Made}
use Rattle.pcap_items.specs.Pieces.{OpensNone}
use Rattle.pcap_classic.specs.declared.pcap.header.PcapHeader.{PcapHeader}
use Rattle.pcap_classic.specs.HeaderText.{HeaderSays}
use Rattle.pcap_tolerant.specs.declared.owned.OwnedAsIs.{OwnedAsIs}
use Rattle.pcap_tolerant.specs.declared.pieces.OwnedRunAsIs.{OwnedRunAsIs}
use Rattle.pcap_tolerant.specs.AsIs.{AsIs, packet_with}
use Rattle.pcap_tolerant.specs.Run.{Setting, FrontAsIs, RunsAsIs}

-- The contents of a packet that owns its bytes.
abbrev pub owned_as_is : OwnedAsIs → AsIs
owned_as_is packet = packet_with packet.head packet.data.items

-- The setting with this header and the caller's limit.
abbrev pub set_to : ℕ → PcapHeader → Setting
set_to limit header = record { header = header; limit = limit }

-- The answers where the bytes should begin with a header, under the caller's limit.
abbrev pub OpensUnder : ℕ → List ℕ → Verdict Setting → Type 0
OpensUnder limit s = Made (set_to limit) (HeaderSays s)

-- The run is the front of `s`, with packets that own their bytes.
abbrev pub IsOwnedRunAsIs : ℕ → OwnedRunAsIs → List ℕ → Type 0
IsOwnedRunAsIs limit run = RunsAsIs limit run.header (map owned_as_is run.packets.items) run.used run.rest

-- The front of `s` has `n` packets read leniently, or no header's text begins `s` and `n` is 0.
abbrev pub HoldsAsIs : ℕ → List ℕ → ℕ → Type 0
HoldsAsIs limit s n =
    ((header : PcapHeader) × (packets : List AsIs) × (rest : List ℕ) × FrontAsIs limit header packets s rest × (n ≡ length packets))
    ⊎ (OpensNone HeaderSays s × (n ≡ 0))
