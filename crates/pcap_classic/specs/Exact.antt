-- The results of a run over a capture that is shown exactly as requested.
use Rattle.std.specs.Prelude.{◌≡◌, ◌≤◌, ◌+◌, ◌*◌, ℕ, List, ◌∷◌, ◌++◌, length, map}
use Rattle.pcap_items.specs.Requested.{RunRequests}
use Rattle.pcap_classic.specs.declared.pcap.header.PcapHeader.{PcapHeader}
use Rattle.pcap_classic.specs.declared.run.PcapRun.{PcapRun}
use Rattle.pcap_classic.specs.HeaderText.{HeaderText}
use Rattle.pcap_classic.specs.PacketText.{Captured, packet_limit, content_of}
use Rattle.pcap_classic.specs.Packets.{format_under}
use Rattle.pcap_classic.specs.Run.{IsRun}

-- The requests of a run over a capture: 24 bytes for its header ('File Header'), and then the requests for its packets and at the rest
-- ('Packet Record').
pub record CaptureRequests (limit : ℕ) (header : PcapHeader) (packets : List Captured) (s rest ns : List ℕ) : Type 0 where
  pub after : List ℕ
  pub further : List ℕ
  pub header_text : HeaderText header s after
  pub run : RunRequests (format_under limit header) tt packets after rest further
  pub all : ns ≡ 24 ∷ further

-- The run is the run over s, its requests follow the earlier ones, and count is their number: at most two per packet, and four more.
pub record IsExact (run : PcapRun) (count : ℕ) (s earlier now : List ℕ) : Type 0 where
  pub run_is : IsRun run s
  pub requests : List ℕ
  pub asked : CaptureRequests packet_limit run.header (map content_of run.packets.items) s run_is.left requests
  pub grown : now ≡ earlier ++ requests
  pub counted : count ≡ length requests
  pub few : count ≤ 2 * length run.packets.items + 4
