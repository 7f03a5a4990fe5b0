-- Times in the headers of packets.
use Rattle.std.proofs.Common.{◌≡◌, ℕ, List, Option, subst}
use Rattle.pcap_core.specs.declared.common.Endianness.{Endianness}
use Rattle.pcap_core.specs.Answer.{number_in}
use Rattle.pcap_times.specs.declared.clock.Timestamp.{Timestamp}
use Rattle.pcap_classic.specs.declared.common.TsResolution.{TsResolution}
use Rattle.pcap_classic.specs.declared.pcap.header.PcapHeader.{PcapHeader}
use Rattle.pcap_classic.specs.Magic.{order_of, resolution_of}
use Rattle.pcapfile_selected.specs.PacketTimes.{IsHeadTime, IsTimeUnder}

-- The time of a packet under the header of a capture in this byte order and resolution.
pub time_by_header : (header : PcapHeader) (order : Endianness) (resolution : TsResolution) (bytes : List ℕ) (time : Option Timestamp)
    → order ≡ order_of header.magic_number → resolution ≡ resolution_of header.magic_number → IsTimeUnder (number_in order) resolution bytes time
    → IsHeadTime header bytes time
time_by_header header order resolution bytes time same_order same_resolution is =
    subst (λ (e : Endianness). IsTimeUnder (number_in e) (resolution_of header.magic_number) bytes time) same_order
    (subst (λ (r : TsResolution). IsTimeUnder (number_in order) r bytes time) same_resolution is)
