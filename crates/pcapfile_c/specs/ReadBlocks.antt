-- The blocks of a PcapNg capture in which the body of each packet is good.
use Rattle.std.specs.Prelude.{List, [], ◌∷◌, Bool}
use Rattle.pcap_items.specs.Format.{Format}
use Rattle.pcap_ng.specs.Blocks.{Item}
use Rattle.pcap_ng.specs.State.{State}
use Rattle.pcapfile_values.specs.declared.any_packets.PcapfileAnyPacket.{PcapfileAnyPacket}
use Rattle.pcapfile_c.specs.PushPackets.{ReadSays, ShowsItem, is_packet_block}

-- The format of blocks in which the body of each packet is good.
unfoldable pub read_format : Format State Item
read_format = record { says = ReadSays; goes = λ q item. item.after; head = λ q. 12 }

-- These blocks, each with the state before it.
abbrev pub each_under : State → List Item → List (State × Item)
each_under q [] = []
each_under q (item ∷ items) = (q, item) ∷ each_under item.after items

-- The block is a packet.
abbrev pub is_packet_there : State × Item → Bool
is_packet_there there = is_packet_block there.1

-- The struct shows the packet in the block, under the state before it.
abbrev pub ShowsThere : State × Item → PcapfileAnyPacket → Type 0
ShowsThere there shown = ShowsItem there.0 there.1 shown
