-- Any bytes have exactly one reading as the body of a block of any type.
use Rattle.std.proofs.Common.{◌^◌, ℕ, List, length, refl, sym, ◌∙◌, arith, inl, inr}
use Rattle.std.proofs.lemmas.Bool.{cases_lt}
use Rattle.pcap_core.specs.Answer.{Order, whole, faulty}
use Rattle.pcap_core.specs.Faults.{Invalid}
use Rattle.pcap_core.specs.Laws.{ExactlyOne}
use Rattle.pcap_core.specs.declared.rules.Rule.TheVariants.{UnknownTooLong}
use Rattle.pcap_blocks.specs.declared.block_type.BlockType.{BlockType}
use Rattle.pcap_blocks.specs.declared.block_type.BlockType.TheVariants as types
use Rattle.pcap_blocks.specs.SectionHeader.{SectionSays}
use Rattle.pcap_blocks.specs.InterfaceDescription.{InterfaceSays}
use Rattle.pcap_blocks.specs.Packet.{PacketBodySays}
use Rattle.pcap_blocks.specs.NameResolution.{ResolutionSays}
use Rattle.pcap_blocks.specs.InterfaceStatistics.{StatisticsSays}
use Rattle.pcap_blocks.specs.EnhancedPacket.{EnhancedSays}
use Rattle.pcap_blocks.specs.SimplePacket.{SimpleSays}
use Rattle.pcap_blocks.specs.SystemdJournalExport.{JournalSays}
use Rattle.pcap_blocks.specs.UnknownBlock.{UnknownBody}
use Rattle.pcap_blocks.specs.ParsedBlock.{SectionBody, InterfaceBody, OldPacketBody, SimpleBody, NamesBody, StatisticsBody, EnhancedBody, JournalBody, OtherBody, BodySays}
use Rattle.pcap_blocks.specs.UnknownBlock.{UnknownSays}
use Rattle.pcap_core.proofs.Verdicts.{one_made}
use Rattle.pcap_blocks.proofs.OneSection.{section_one}
use Rattle.pcap_options.proofs.OneVerdict.{IsDecided, one_said}
use Rattle.pcap_blocks.proofs.OneInterface.{interface_one}
use Rattle.pcap_blocks.proofs.OnePacket.{packet_body_one}
use Rattle.pcap_blocks.proofs.OneWhole.{simple_one, journal_one}
use Rattle.pcap_blocks.proofs.OneResolution.{resolution_one}
use Rattle.pcap_blocks.proofs.OneStatistics.{statistics_one}
use Rattle.pcap_blocks.proofs.OneEnhanced.{enhanced_one}

pub unknown_one : (type : BlockType) (s : List ℕ) → ExactlyOne (UnknownSays type s)
unknown_one type s =
    let is : IsDecided (UnknownSays type s) = record {
      wholes = λ x y a b h k. (k.0 ∙ sym h.0, k.1 ∙ sym h.1);
      faults = λ f g h k. k.0 ∙ sym h.0;
      not_both = λ x a f h k. absurd (omega (arith, h.2, k.1));
      no_lack = λ n h. h;
    } in
    let body : UnknownBody = record { type_ = type; len = length s; bytes = s } in
    elim (cases_lt (length s) (2 ^ 32)) [
      | inl lt ↦ one_said (UnknownSays type s) is (whole body s) (refl, refl, lt)
      | inr long ↦ one_said (UnknownSays type s) is (faulty (Invalid UnknownTooLong)) (refl, long)
    ]

pub body_one : (order : Order) (type : BlockType) (s : List ℕ) → ExactlyOne (BodySays order type s)
body_one order types.SectionHeader s = one_made SectionBody (SectionSays s) (section_one s)
body_one order types.InterfaceDescription s = one_made InterfaceBody (InterfaceSays order s) (interface_one order s)
body_one order types.Packet s = one_made OldPacketBody (PacketBodySays order s) (packet_body_one order s)
body_one order types.SimplePacket s = one_made SimpleBody (SimpleSays order s) (simple_one order s)
body_one order types.NameResolution s = one_made NamesBody (ResolutionSays order s) (resolution_one order s)
body_one order types.InterfaceStatistics s = one_made StatisticsBody (StatisticsSays order s) (statistics_one order s)
body_one order types.EnhancedPacket s = one_made EnhancedBody (EnhancedSays order s) (enhanced_one order s)
body_one order types.SystemdJournalExport s = one_made JournalBody (JournalSays s) (journal_one s)
body_one order (types.Unknown n) s = one_made OtherBody (UnknownSays (types.Unknown n) s) (unknown_one (types.Unknown n) s)
