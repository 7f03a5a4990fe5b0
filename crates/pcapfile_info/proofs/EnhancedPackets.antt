-- Lemmas on enhanced packets that are read in the input's buffer.
use Rattle.std.proofs.Common.{◌≡◌, ◌-◌, ℕ, List, [], length, refl, sym, subst, ◌∙◌, inl, arith}
use Rattle.std.specs.List.{slice_get}
use Rattle.std.proofs.lemmas.Slice.Zip.{AllZip-long}
use Rattle.pcap_core.specs.declared.common.Endianness.{Endianness}
use Rattle.pcap_core.specs.Answer.{whole}
use Rattle.pcap_blocks.specs.InterfaceDescription.{Interface}
use Rattle.pcap_blocks.specs.ParsedBlock.{EnhancedBody}
use Rattle.pcap_blocks.specs.SectionHeader.{Section}
use Rattle.pcap_ng.specs.declared.pcapng.enhanced.EnhancedNumbers.{EnhancedNumbers}
use Rattle.pcap_ng.specs.Blocks.{block_format}
use Rattle.pcap_ng.specs.Enhanced.{PacketText, enhanced_frame}
use Rattle.pcap_ng.specs.Frames.{FrameText}
use Rattle.pcap_ng.specs.State.{State, opening, within, order_at}
use Rattle.pcap_ng.proofs.BlockFormat.{blocks_lawful, goes_after}
use Rattle.pcap_ng.proofs.EnhancedFrames.{enhanced_long, packet_item, packet_says}
use Rattle.pcapfile_info.specs.declared.clocks.Clocks.{Clocks}
use Rattle.pcapfile_info.specs.declared.progress.Progress.{Progress}
use Rattle.pcapfile_info.specs.declared.seen.Seen.{Seen}
use Rattle.pcapfile_info.specs.declared.seen.Sight.TheVariants.{Packet}
use Rattle.pcapfile_info.specs.Describing.{SameDescribed}
use Rattle.pcapfile_info.specs.KeptBlocks.{KeepsBlocks}
use Rattle.pcapfile_info.specs.InForce.{AreInForce, IsClocked}
use Rattle.pcapfile_info.specs.Sights.{IsBlockSight, IsTimeSeen, Sees, place_of}
use Rattle.pcapfile_info.specs.Telling.{AddsItem, AddsNothing}
use Rattle.pcapfile_info.proofs.InForce.{clocked_seen}
use Rattle.pcapfile_info.proofs.KeptBlocks.{kept_more, kept_stays, packet_describes}
use Rattle.pcapfile_info.proofs.Turns.{Walked, walked_more, walked_stays}

pub packet_said : (e : Endianness) (section : Section) (interfaces : List Interface) → e ≡ order_at (within section interfaces) → (len : ℕ) (body t : List ℕ)
    → block_format.says (within section interfaces) t (whole (packet_item e len body (within section interfaces)) []) → length t ≡ len
unfolding block_format
packet_said e section interfaces order len body t says =
    let text = subst (λ (o : Endianness). FrameText o (enhanced_frame e len body) t []) (sym order) says.frame in
    omega (arith, enhanced_long e len body t [] text)

-- The data of an enhanced packet follow from the clocks of its section.
pub packet_seen : (clocks : Clocks) (section : Section) (interfaces : List Interface) → AreInForce clocks (within section interfaces) → (described : ℕ) (packet : EnhancedNumbers) (seen : Seen) (s rest : List ℕ) → (text : PacketText clocks.order packet s rest)
    → Sees (place_of described (length clocks.clocks.items) packet.interface) packet.stored packet.original seen → IsClocked (slice_get clocks.clocks.items packet.interface) packet.units seen.time
    → IsBlockSight described (packet_item clocks.order text.frame.0 text.body (within section interfaces)) (Packet seen)
packet_seen clocks section interfaces known described packet seen s rest text sees time =
    let enhanced = text.tells.0 in
    let tells = text.tells.3 in
    let long = AllZip-long _ interfaces clocks.clocks.items known.1 in
    let clocked = clocked_seen interfaces clocks.clocks.items known.1 packet.interface packet.units seen.time time in
    let both : Sees (place_of described (length interfaces) enhanced.interface_id) (length enhanced.packet.bytes) enhanced.packet.original_len seen × IsTimeSeen (slice_get interfaces enhanced.interface_id) enhanced.packet.timestamp seen.time =
    rw (← long, ← tells.interface_is, ← tells.stored_is, ← tells.original_is, ← tells.units_are) (sees, clocked) in
    inl (EnhancedBody enhanced, text.tells.1, (enhanced, refl, text.tells.2), both)

-- A walk continues with an enhanced packet.
pub walk_on : (clocks : Clocks) (q : State) → AreInForce clocks q → (shown rest after : List ℕ) (mid new next : Progress) (packet : EnhancedNumbers) (seen : Seen) → Walked block_format IsBlockSight 0 KeepsBlocks q q shown rest mid new
    → PacketText clocks.order packet rest after → Sees (place_of (length new.totals.interfaces.items) (length clocks.clocks.items) packet.interface) packet.stored packet.original seen
    → IsClocked (slice_get clocks.clocks.items packet.interface) packet.units seen.time → AddsItem (Packet seen) (length rest - length after) new next → SameDescribed new next → Walked block_format IsBlockSight 0 KeepsBlocks q q shown after mid next
walk_on clocks opening known shown rest after mid new next packet seen walked text sees time adds same = absurd known
walk_on clocks (within section interfaces) known shown rest after mid new next packet seen walked text sees time adds same =
    let e = clocks.order in
    let q = within section interfaces in
    let len = text.frame.0 in
    let body = text.body in
    let item = packet_item e len body q in
    let size : length rest - length after ≡ len = omega (arith, enhanced_long e len body rest after text.frame.1) in
    let is = packet_seen clocks section interfaces known (length new.totals.interfaces.items) packet seen rest after text sees time in
    walked_more block_format IsBlockSight 0 KeepsBlocks blocks_lawful q q q shown rest after mid new next (length rest - length after) item (Packet seen) walked (packet_says e section interfaces known.0 len body rest after text.frame.1) (goes_after q item)
    (λ t says. packet_said e section interfaces known.0 len body t says ∙ sym size) adds.0 adds.1
    (λ first items sights kept. (
      subst (λ (n : ℕ). IsBlockSight n item (Packet seen)) kept.totals.described is,
      kept_more (enhanced_frame e len body) section interfaces (Packet seen) new next adds.2 (packet_describes section interfaces new next same) first items sights kept,
    ))

-- A walk stays where it is if the next packet isn't counted.
pub walk_stays : (q : State) (shown rest : List ℕ) (mid new next : Progress) → Walked block_format IsBlockSight 0 KeepsBlocks q q shown rest mid new → AddsNothing new next → SameDescribed new next
    → Walked block_format IsBlockSight 0 KeepsBlocks q q shown rest mid next
walk_stays q shown rest mid new next walked nothing same =
    walked_stays block_format IsBlockSight 0 KeepsBlocks q q shown rest mid new next walked nothing.0 nothing.1 (kept_stays new next nothing same)
