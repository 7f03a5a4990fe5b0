-- The results of a run over a whole slice.
use Rattle.std.specs.Prelude.{◌≡◌, ◌+◌, ℕ, List, ◌∷◌, length, map}
use Rattle.pcap_classic.specs.declared.pcap.header.PcapHeader.{PcapHeader}
use Rattle.pcap_classic.specs.declared.run.PcapRun.{PcapRun}
use Rattle.pcap_classic.specs.PacketText.{packet_limit, Captured, content_of}
use Rattle.pcap_classic.specs.Packets.{format_under}
use Rattle.pcap_classic.specs.Front.{CaptureFront}
use Rattle.pcap_items.specs.Run.{IsRest}

-- The run is the front of s: its header and packets, its length, and the state of its rest.
pub record IsRun (run : PcapRun) (s : List ℕ) : Type 0 where
  pub left : List ℕ
  pub front : CaptureFront packet_limit run.header (map content_of run.packets.items) s left
  pub used : run.used + length left ≡ length s
  pub rest : IsRest ((format_under packet_limit run.header).says tt) left run.rest

-- s begins with a header and at least one packet.
abbrev pub HasPacket : List ℕ → Type 0
HasPacket s =
    (header : PcapHeader) × (first : Captured) × (packets : List Captured) × (rest : List ℕ) × CaptureFront packet_limit header (first ∷ packets) s rest
