-- Any bytes have exactly one reading as the body of a packet block.
use Rattle.std.proofs.Common.{ℕ, List, [], ◌∷◌, refl, subst, arith, inr}
use Rattle.pcap_core.specs.Answer.{Order, Number}
use Rattle.pcap_core.specs.Faults.{Fault, Invalid}
use Rattle.pcap_core.specs.Laws.{ExactlyOne}
use Rattle.pcap_core.specs.declared.rules.Rule.TheVariants.{EnhancedTooShort}
use Rattle.pcap_core.proofs.Numbers.{Values}
use Rattle.pcap_blocks.specs.StoredPacket.{Stored, StoredSays}
use Rattle.pcap_options.specs.PacketOption.{packet_kind}
use Rattle.pcap_blocks.specs.Packet.{PacketBody, PacketBodyText, PacketBodyFault, short, in_packet, PacketBodySays}
use Rattle.pcap_blocks.proofs.NumbersThen.{IsNumbersThen, numbers_then_one}
use Rattle.pcap_blocks.proofs.OneStored.{PacketFault, short_packet, stored_one}

abbrev widths : List ℕ
widths = 2 ∷ 2 ∷ []

abbrev make : Values widths → Stored → PacketBody
make ns packet = record { interface_id = ns.0; drop_count = ns.1.0; packet = packet }

fault_to : (order : Order) (fault : Fault) (s : List ℕ) → PacketBodyFault order s fault → PacketFault order packet_kind s fault
fault_to order fault s (short lt) = short_packet order packet_kind s lt
fault_to order fault s (in_packet _ after behind stands) = inr (after, behind, stands)

packet_then : (order : Order) → IsNumbersThen order (Invalid EnhancedTooShort) widths make (StoredSays order packet_kind) (PacketBodyText order) (PacketBodyFault order)
packet_then order = record {
  text_to = λ b s rest h. ((b.interface_id, (b.drop_count, tt)), h.after_drops, (h.after_interface, h.interface_is, (h.after_drops, h.drops_are, refl)), b.packet, refl, h.packet_is);
  text_from = λ ns packet s after rest n h.
      record { after_interface = n.0; after_drops = after; interface_is = n.1; drops_are = subst (λ (x : List ℕ). Number order 2 ns.1.0 n.0 x) n.2.2 n.2.1; packet_is = h };
  fault_to = λ fault s h. fault_to order fault s h;
  short_from = λ s lt. short (omega (arith, lt));
  fault_from = λ fault s after behind h. in_packet fault after behind h;
  no_lack = λ s n h. h;
}

pub packet_body_one : (order : Order) (s : List ℕ) → ExactlyOne (PacketBodySays order s)
packet_body_one order = numbers_then_one order (Invalid EnhancedTooShort) widths make (StoredSays order packet_kind) (PacketBodyText order) (PacketBodyFault order) (packet_then order) (stored_one order packet_kind)
