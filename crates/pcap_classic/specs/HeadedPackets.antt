-- Packets as a format with a head: the verdicts on the 16 bytes of a packet's header, and then on the data.
use Rattle.std.specs.Prelude.{◌≡◌, ℕ, List, []}
use Rattle.pcap_classic.specs.declared.common.TsResolution.{TsResolution}
use Rattle.pcap_classic.specs.declared.pcap.packet.PacketHeader.{PacketHeader}
use Rattle.pcap_core.specs.Answer.{Order}
use Rattle.pcap_classic.specs.PacketText.{Captured, PacketHeaderText, HasHeadFault}
use Rattle.pcap_items.specs.Headed.{HeadReading, good, bad, Headed}

-- The verdict on a head: the header whose text it is, or its fault.
abbrev pub HeadReads : ℕ → Order → TsResolution → List ℕ → HeadReading PacketHeader → Type 0
HeadReads limit order r b (good header) = PacketHeaderText limit order r header b []
HeadReads limit order r b (bad fault) = HasHeadFault limit order r b fault

-- The verdict on data: with its header it is a packet.
abbrev pub DataReads : PacketHeader → List ℕ → HeadReading Captured → Type 0
DataReads header b (good packet) = (packet.header ≡ header) × (packet.bytes ≡ b)
DataReads header b (bad fault) = ⊥

-- The format of packets whose head is a header of 16 bytes that states the length of the data.
abbrev pub headed_packets : ℕ → Order → TsResolution → Headed (Unit {0}) PacketHeader Captured
headed_packets limit order r = record {
  head = λ q. 16;
  reads = λ q. HeadReads limit order r;
  size = λ header. header.incl_len;
  means = λ q. DataReads;
  goes = λ q packet. q;
}
