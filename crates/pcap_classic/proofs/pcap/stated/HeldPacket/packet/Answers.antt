use Rattle.std.proofs.Common.{List, ℕ, [], sym, subst}
use Rattle.pcap_core.specs.Answer.{whole}
use Rattle.pcap_classic.specs.PacketText.{packet_limit}
use Rattle.pcap_classic.specs.Packets.{reader_format}
use Rattle.pcap_classic.proofs.StatedPackets.{shown_stands}
use Rattle.pcap_classic.proofs.pcap.stated.HeldPacket.packet.Goals as goal

pub returns : goal.returns
returns c =
    let packet = c.args.self in
    let header = packet.from.now in
    subst (λ (l : List ℕ). (reader_format packet_limit header).says tt packet.bytes.now (whole (record { header = packet.head; bytes = l }) [])) (sym c.split_at.ensures.back)
    (shown_stands header packet.head packet.bytes.now c.requires)
