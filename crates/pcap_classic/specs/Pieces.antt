-- The results of a run over a capture that comes in pieces.
use Rattle.std.specs.Prelude.{◌≡◌, ◌⊎◌, ℕ, List, length}
use Rattle.pcap_items.specs.Pieces.{OpensNone}
use Rattle.pcap_classic.specs.declared.pcap.header.PcapHeader.{PcapHeader}
use Rattle.pcap_classic.specs.Front.{CaptureFront}
use Rattle.pcap_classic.specs.HeaderText.{HeaderSays}
use Rattle.pcap_classic.specs.PacketText.{Captured, packet_limit}

-- The front of s has n packets, or no header's text begins s, and n is 0.
abbrev pub HoldsPackets : List ℕ → ℕ → Type 0
HoldsPackets s n =
    ((header : PcapHeader) × (packets : List Captured) × (rest : List ℕ) × CaptureFront packet_limit header packets s rest × (n ≡ length packets))
    ⊎ (OpensNone HeaderSays s × (n ≡ 0))
