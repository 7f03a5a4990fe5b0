-- Lemmas on packets that all come from one interface.
use Rattle.std.proofs.Common.{◌≡◌, ◌+◌, ◌++◌, ◌∷◌, [], ℕ, List, Bool, length, set, refl, sym, ap, ◌∙◌, subst, arith}
use Rattle.std.specs.Prelude.{All, count_by, filter, sum_by}
use Rattle.std.proofs.lemmas.List.{get_or-set_same, length-set}
use Rattle.std.proofs.lemmas.List.Elements.{All-nil, All-cons, filter_map-append}
use Rattle.pcap_classic.specs.PacketText.{Captured}
use Rattle.pcapfile_run.specs.Passing.{counted}
use Rattle.pcapfile_info.specs.declared.others.Kind.{Kind}
use Rattle.pcapfile_info.specs.declared.others.Others.{Others}
use Rattle.pcapfile_info.specs.declared.late.Late.{Late}
use Rattle.pcapfile_info.specs.declared.seen.Seen.{Seen}
use Rattle.pcapfile_info.specs.declared.seen.Sight.{Sight}
use Rattle.pcapfile_info.specs.declared.seen.Sight.TheVariants.{Packet}
use Rattle.pcapfile_info.specs.declared.totals.Totals.{Totals}
use Rattle.pcapfile_info.specs.Others.{CountsOthers, is_other}
use Rattle.pcapfile_info.specs.Sights.{IsPacketSight, captured_seen}
use Rattle.pcapfile_info.specs.Tallies.{tally_of, Tallies}
use Rattle.pcapfile_info.specs.Telling.{AreSights}
use Rattle.pcapfile_info.specs.Totals.{AllAre, TotalsAre, IsBelow, packet_in, packets_of, interfaces_in, is_refused, is_section, is_by, is_undescribed}
use Rattle.pcapfile_info.proofs.OtherBlocks.{others_none}

-- Every sight is a packet from interface 0.
record ByOne (sights : List Sight) : Type 0 where
  undescribed : filter is_undescribed (packets_of sights) ≡ []
  by_it : filter (is_by 0) (packets_of sights) ≡ packets_of sights
  no_interface : sum_by interfaces_in sights ≡ 0
  no_refused : count_by is_refused sights ≡ 0
  no_section : count_by is_section sights ≡ 0
  no_other : (among : Kind → Bool) → count_by (is_other among) sights ≡ 0
  below : All (λ packet. IsBelow 1 packet.interface) (packets_of sights)

by_one_more : (packet : Captured) (sights : List Sight) → ByOne sights → ByOne (Packet (captured_seen packet) ∷ sights)
by_one_more packet sights others = record {
  undescribed = others.undescribed;
  by_it = ap (λ (l : List Seen). captured_seen packet ∷ l) others.by_it;
  no_interface = others.no_interface;
  no_refused = others.no_refused;
  no_section = others.no_section;
  no_other = others.no_other;
  below = All-cons (λ it. IsBelow 1 it.interface) (captured_seen packet) (packets_of sights) (omega arith) others.below;
}

by_one : (n : ℕ) (packets : List Captured) (sights : List Sight) → AreSights IsPacketSight n packets sights → ByOne sights
by_one n [] [] are = record { undescribed = refl; by_it = refl; no_interface = refl; no_refused = refl; no_section = refl; no_other = λ among. refl; below = All-nil (λ it. IsBelow 1 it.interface) }
by_one n [] (sight ∷ sights) are = absurd are
by_one n (packet ∷ packets) [] are = absurd are
by_one n (packet ∷ packets) (sight ∷ sights) (first, are) = subst (λ (s : Sight). ByOne (s ∷ sights)) (sym first) (by_one_more packet sights (by_one (n + interfaces_in sight) packets sights are))

-- The totals of no items count no packet.
pub alone_none : (totals : Totals) → TotalsAre 1 [] totals → AllAre [] totals
alone_none totals nothing = record {
  all = nothing.all;
  undescribed = nothing.undescribed;
  described = nothing.described;
  refused = nothing.refused;
  sections = nothing.sections;
  others = nothing.others;
}

-- The totals count one more packet.
pub alone_push : (sights : List Sight) (seen : Seen) (old new : Totals) → AllAre sights old → Tallies (packets_of sights ++ seen ∷ []) new.all → new.undescribed ≡ old.undescribed → new.interfaces ≡ old.interfaces → new.refused ≡ old.refused
    → new.sections ≡ old.sections → new.others ≡ old.others → AllAre (sights ++ Packet seen ∷ []) new
alone_push sights seen old new before all undescribed interfaces refused sections others = record {
  all = rw (filter_map-append packet_in sights (Packet seen ∷ [])) all;
  undescribed = rw undescribed before.undescribed;
  described = rw interfaces before.described;
  refused = refused ∙ before.refused;
  sections = sections ∙ before.sections;
  others = subst (λ (o : Others). CountsOthers [] o) (sym others) before.others;
}

-- After the copy, the interface has the counts of all packets.
pub given_to_it : (packets : List Captured) (sights : List Sight) → AreSights IsPacketSight 1 packets sights → (old new : Totals) (late : Late) → AllAre sights old → new.all ≡ old.all → new.undescribed ≡ old.undescribed
    → tally_of late ≡ old.all → new.interfaces.items ≡ set old.interfaces.items 0 late → new.refused ≡ old.refused → new.sections ≡ old.sections → new.others ≡ old.others → TotalsAre 1 sights new
given_to_it packets sights are old new late before all undescribed is interfaces refused sections others =
    let one = by_one 1 packets sights are in
    let long : length new.interfaces.items ≡ 1 = ap length interfaces ∙ length-set old.interfaces.items 0 late ∙ before.described in
    record {
      all = rw all before.all;
      undescribed = rw (one.undescribed, undescribed) before.undescribed;
      described = omega (arith, long, one.no_interface);
      by_interface = λ index d less.
          let first : index ≡ 0 = omega (arith, less, long) in
          rw (first, one.by_it, interfaces, get_or-set_same old.interfaces.items 0 late d (omega (arith, before.described)), is) before.all;
      within = rw long one.below;
      refused = refused ∙ before.refused ∙ ap counted (sym one.no_refused);
      sections = sections ∙ before.sections ∙ ap counted (sym one.no_section);
      others = others_none sights one.no_other new.others (subst (λ (o : Others). CountsOthers [] o) (sym others) before.others);
    }
