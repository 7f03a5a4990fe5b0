-- Proofs that packets of blocks are read again from a classic capture.
use Rattle.std.proofs.Common.{◌<◌, ◌^◌, List, [], ◌∷◌, refl, arith}
use Rattle.std.specs.Prelude.{All}
use Rattle.std.specs.List.{AllZip}
use Rattle.std.proofs.lemmas.List.Elements.{All-nil, All-cons}
use Rattle.pcap_core.specs.declared.link.DataLink.{DataLink}
use Rattle.pcap_classic.specs.declared.pcap.header.PcapHeader.{PcapHeader}
use Rattle.pcap_classic.specs.PacketText.{Captured}
use Rattle.pcap_classic.specs.Written.{IsWhole}
use Rattle.pcap_blocks.specs.InterfaceDescription.{Interface}
use Rattle.pcap_blocks.specs.ParsedBlock.{Body, OldPacketBody, EnhancedBody}
use Rattle.pcap_ng.specs.Blocks.{Item}
use Rattle.pcap_file.specs.Converted.{interface_for, packet_block}
use Rattle.pcap_file.specs.Placed.{Becomes, PlacesBody, Turn, carried, no_packet, packets_of, placed, unplaced}
use Rattle.pcap_ng.specs.State.{interfaces_at}
use Rattle.pcap_file.proofs.ConvertedAgain.{exactly_timed}

-- IsPlaced: a packet of a block is whole, and its nanoseconds are less than a second.
pub record IsPlaced (packet : Captured) : Type 0 where
  pub whole : IsWhole packet
  pub no_second_more : packet.header.ts_nsec < 10 ^ 9

pub body_placed : (interfaces : List Interface) (link : DataLink) (body : Body) (packet : Captured) → PlacesBody interfaces link body packet → IsPlaced packet
body_placed interfaces link (EnhancedBody b) packet x = record { whole = x.whole; no_second_more = x.time.time_is.split.no_second_more }
body_placed interfaces link (OldPacketBody b) packet x = record { whole = x.whole; no_second_more = x.time.time_is.split.no_second_more }
body_placed interfaces link _ packet x = absurd x

-- Packets of blocks fit into a classic capture.
pub packets_whole : (link : DataLink) (items : List Item) (turns : List Turn) → AllZip (Becomes link) items turns → All IsWhole (packets_of turns)
packets_whole link [] [] x = All-nil IsWhole
packets_whole link [] (turn ∷ turns) x = absurd x
packets_whole link (item ∷ items) [] x = absurd x
packets_whole link (item ∷ items) (placed packet ∷ turns) x =
    All-cons IsWhole packet (packets_of turns) (body_placed (interfaces_at item.after) link x.0.1 packet x.0.4).whole (packets_whole link items turns x.1)
packets_whole link (item ∷ items) (unplaced reason ∷ turns) x = packets_whole link items turns x.1
packets_whole link (item ∷ items) (no_packet ∷ turns) x = packets_whole link items turns x.1

-- A packet that was converted becomes itself again.
pub packet_back : (header : PcapHeader) (packet : Captured) → IsWhole packet → (carried packet).header.ts_sec < 2 ^ 32
    → PlacesBody (interface_for header ∷ []) header.datalink (packet_block packet) (carried packet)
packet_back header packet whole few = record {
  by = interface_for header;
  described = refl;
  same_link = refl;
  time = exactly_timed header packet;
  original_is = refl;
  bytes_are = refl;
  whole = record {
    seconds = few;
    nanoseconds = omega arith;
    included = whole.included;
    original = whole.original;
    limit = whole.limit;
  };
}
