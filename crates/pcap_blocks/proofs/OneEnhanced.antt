-- Any bytes have exactly one reading as the body of an enhanced packet.
use Rattle.std.proofs.Common.{ℕ, List, [], ◌∷◌, refl, subst, arith, inr}
use Rattle.pcap_core.specs.Answer.{Order, Number}
use Rattle.pcap_core.specs.Faults.{Fault, Invalid}
use Rattle.pcap_core.specs.Laws.{ExactlyOne}
use Rattle.pcap_core.specs.declared.rules.Rule.TheVariants.{EnhancedTooShort}
use Rattle.pcap_core.proofs.Numbers.{Values}
use Rattle.pcap_blocks.specs.StoredPacket.{Stored, StoredSays}
use Rattle.pcap_options.specs.EnhancedOption.{enhanced_packet}
use Rattle.pcap_blocks.specs.EnhancedPacket.{Enhanced, EnhancedText, EnhancedFault, short, in_packet, EnhancedSays}
use Rattle.pcap_blocks.proofs.NumbersThen.{IsNumbersThen, numbers_then_one}
use Rattle.pcap_blocks.proofs.OneStored.{PacketFault, short_packet, stored_one}

abbrev widths : List ℕ
widths = 4 ∷ []

abbrev make : Values widths → Stored → Enhanced
make ns packet = record { interface_id = ns.0; packet = packet }

fault_to : (order : Order) (fault : Fault) (s : List ℕ) → EnhancedFault order s fault → PacketFault order enhanced_packet s fault
fault_to order fault s (short lt) = short_packet order enhanced_packet s lt
fault_to order fault s (in_packet _ after behind stands) = inr (after, behind, stands)

enhanced_then : (order : Order) → IsNumbersThen order (Invalid EnhancedTooShort) widths make (StoredSays order enhanced_packet) (EnhancedText order) (EnhancedFault order)
enhanced_then order = record {
  text_to = λ b s rest h. ((b.interface_id, tt), h.after_interface, (h.after_interface, h.interface_is, refl), b.packet, refl, h.packet_is);
  text_from = λ ns packet s after rest n h. record { after_interface = after; interface_is = subst (λ (x : List ℕ). Number order 4 ns.0 s x) n.2 n.1; packet_is = h };
  fault_to = λ fault s h. fault_to order fault s h;
  short_from = λ s lt. short (omega (arith, lt));
  fault_from = λ fault s after behind h. in_packet fault after behind h;
  no_lack = λ s n h. h;
}

pub enhanced_one : (order : Order) (s : List ℕ) → ExactlyOne (EnhancedSays order s)
enhanced_one order = numbers_then_one order (Invalid EnhancedTooShort) widths make (StoredSays order enhanced_packet) (EnhancedText order) (EnhancedFault order) (enhanced_then order) (stored_one order enhanced_packet)
