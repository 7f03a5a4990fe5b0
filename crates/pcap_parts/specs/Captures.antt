-- Cuts of a classic capture into parts, and the run over a capture in parts.
use Rattle.std.specs.Prelude.{◌≡◌, ℕ, List, length, map}
use Rattle.pcap_items.specs.Run.{IsRest}
use Rattle.pcap_classic.specs.declared.run.PcapRun.{PcapRun}
use Rattle.pcap_classic.specs.declared.pcap.header.PcapHeader.{PcapHeader}
use Rattle.pcap_classic.specs.HeaderText.{HeaderText}
use Rattle.pcap_classic.specs.PacketText.{packet_limit, content_of}
use Rattle.pcap_classic.specs.Packets.{format_under}
use Rattle.pcap_parts.specs.declared.cut.Cut.{Cut}
use Rattle.pcap_parts.specs.Parts.{AreCuts, AreFair, HaveAtLeast, InParts}

-- HasHeader: the header of a capture is whole at the front.
abbrev pub HasHeader : List ℕ → Type 0
HasHeader bytes = (header : PcapHeader) × (after : List ℕ) × HeaderText header bytes after

-- IsCut: these cuts are boundaries of the packets behind this header.
pub record IsCut (header : PcapHeader) (cuts : List Cut) (bytes : List ℕ) : Type 0 where
  pub after : List ℕ
  pub header_text : HeaderText header bytes after
  pub cuts_are : AreCuts (format_under packet_limit header) tt after 24 (length bytes) cuts

-- IsCutFairly: the packets behind this header are cut into fair parts, the first of which begins behind the header.
pub record IsCutFairly (parts : ℕ) (header : PcapHeader) (cuts : List Cut) (bytes : List ℕ) : Type 0 where
  pub after : List ℕ
  pub header_text : HeaderText header bytes after
  pub fair : AreFair (format_under packet_limit header) tt after (length bytes) 24 parts cuts

-- IsCutAtLeast: the packets behind this header are cut into parts of at least n bytes.
pub record IsCutAtLeast (n : ℕ) (header : PcapHeader) (cuts : List Cut) (bytes : List ℕ) : Type 0 where
  pub after : List ℕ
  pub header_text : HeaderText header bytes after
  pub steps : HaveAtLeast (format_under packet_limit header) tt after (length bytes) n cuts

-- IsRunInParts: the packets of a run are those of the parts, joined in order, and the last part has the rest of the run.
pub record IsRunInParts (run : PcapRun) (header : PcapHeader) (cuts : List Cut) (bytes : List ℕ) : Type 0 where
  pub same : run.header ≡ header
  pub left : List ℕ
  pub rest : IsRest ((format_under packet_limit header).says tt) left run.rest
  pub parts : InParts (format_under packet_limit header) tt (map content_of run.packets.items) left bytes cuts
