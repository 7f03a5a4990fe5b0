-- The results of a run over a stream of a classic capture.
use Rattle.std.specs.Prelude.{ℕ, List, map, Option}
use Rattle.pcap_classic.specs.declared.run.PcapRead.{PcapRead}
use Rattle.pcap_classic.specs.HeaderText.{HeaderSays, HeaderText}
use Rattle.pcap_classic.specs.Packets.{format_under}
use Rattle.pcap_classic.specs.PacketText.{packet_limit, content_of}
use Rattle.pcap_items.specs.Reading.{Takes}
use Rattle.pcap_items.specs.Takes.{TakesItems, ReadsFront}

-- The run took the texts of the header and the packets and no more: at most `most` packets, up to a reason to stop.
pub record TakesCapture (known : Option (List ℕ)) (most : ℕ) (read : PcapRead) : Type 0 where
  pub after : Option (List ℕ)
  pub now : Option (List ℕ)
  pub header : Takes HeaderSays known after read.header
  pub items : TakesItems (format_under packet_limit read.header) tt after now read.failed most (map content_of read.packets.items) read.fault

-- The header is that of the bytes. Whatever failed, the packets are a beginning of the front's packets.
abbrev pub ReadsCapture : List ℕ → ℕ → PcapRead → Type 0
ReadsCapture bytes most read =
    (after : List ℕ) × HeaderText read.header bytes after
    × ReadsFront (format_under packet_limit read.header) tt after most (map content_of read.packets.items) read.fault read.failed
