use Rattle.std.proofs.Common.{refl}
use Rattle.pcap_items.proofs.Items.{on_err, tells_item}
use Rattle.pcap_classic.specs.PacketText.{packet_limit, content_of}
use Rattle.pcap_classic.specs.Packets.{capture_format, packet_format}
use Rattle.pcap_classic.specs.Parser.{header_of}
use Rattle.pcap_classic.proofs.run.items.PcapParserItems.next_item.Goals as goal

pub returns-clause-finds : goal.returns-clause-finds
unfolding packet_format
returns-clause-finds c =
    let header = header_of c.args.self.now in
    rw c.found_in.ensures (tells_item (capture_format packet_limit) (λ packet. packet) content_of content_of (λ _. refl) header header (λ _. refl) (λ _ _. ⊥) c.args.slice.now c.next_packet.result (on_err refl c.next_packet.result) c.next_packet.ensures.tells)
