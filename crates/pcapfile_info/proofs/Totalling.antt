-- Lemmas on totals with one more item.
use Rattle.std.proofs.Common.{◌≡◌, ◌<◌, ◌+◌, ◌++◌, ◌∷◌, [], ℕ, List, Bool, true, false, cond, Option, None, Some, length, set, inl, inr, refl, sym, ap, ◌∙◌, subst, arith, length-append, append-nil}
use Rattle.std.specs.Prelude.{All, count_by, filter}
use Rattle.std.proofs.lemmas.Bool.{cases_eq, cases_lt, eq-eqb, ne_eqb}
use Rattle.std.proofs.lemmas.List.{get_or-set_same, get_or-set_other, get_or_append_left, get_or_push, length-set}
use Rattle.std.proofs.lemmas.List.Elements.{All-push, All-head, All-tail, All-weaker, filter_map-append, filter-append}
use Rattle.std.proofs.lemmas.List.Sums.{sum_by_push}
use Rattle.pcapfile_run.specs.Passing.{counted}
use Rattle.pcapfile_info.specs.declared.late.Late.{Late}
use Rattle.pcapfile_info.specs.declared.others.Others.{Others}
use Rattle.pcapfile_info.specs.declared.seen.Seen.{Seen}
use Rattle.pcapfile_info.specs.declared.seen.Sight.{Sight}
use Rattle.pcapfile_info.specs.declared.seen.Sight.TheVariants.{Packet, Interface}
use Rattle.pcapfile_info.specs.declared.totals.Totals.{Totals}
use Rattle.pcapfile_info.specs.Others.{CountsOthers}
use Rattle.pcapfile_info.specs.Tallies.{tally_of, Tallies}
use Rattle.pcapfile_info.specs.Totals.{TotalsAre, packet_in, packets_of, interfaces_in, is_refused, is_section, is_number, is_by, is_none, is_undescribed, IsBelow}
use Rattle.pcapfile_info.proofs.OtherBlocks.{others_stay}
use Rattle.pcapfile_info.proofs.Tallying.{count_push, counted_push}

filter_yes : (p : Seen → Bool) (packets : List Seen) (seen : Seen) → p seen ≡ true → filter p (packets ++ seen ∷ []) ≡ filter p packets ++ seen ∷ []
filter_yes p packets seen passes = filter-append p packets (seen ∷ []) ∙ ap (λ (b : Bool). filter p packets ++ cond b (seen ∷ []) []) passes

filter_no : (p : Seen → Bool) (packets : List Seen) (seen : Seen) → p seen ≡ false → filter p (packets ++ seen ∷ []) ≡ filter p packets
filter_no p packets seen fails = filter-append p packets (seen ∷ []) ∙ ap (λ (b : Bool). filter p packets ++ cond b (seen ∷ []) []) fails ∙ append-nil (filter p packets)

-- No packet comes from an interface that isn't described yet.
below_other : (n : ℕ) (number : Option ℕ) → IsBelow n number → is_number n number ≡ false
below_other n None below = refl
below_other n (Some index) below = ne_eqb index n (λ same. omega (arith, below, same))

none_by : (n : ℕ) (packets : List Seen) → All (λ packet. IsBelow n packet.interface) packets → filter (is_by n) packets ≡ []
none_by n [] below = refl
none_by n (packet ∷ packets) below =
    let first = below_other n packet.interface (All-head (λ p. IsBelow n p.interface) packet packets below) in
    ap (λ (b : Bool). cond b (packet ∷ filter (is_by n) packets) (filter (is_by n) packets)) first ∙ none_by n packets (All-tail (λ p. IsBelow n p.interface) packet packets below)

below_more : (n : ℕ) (number : Option ℕ) → IsBelow n number → IsBelow (n + 1) number
below_more n None below = tt
below_more n (Some index) below = omega (arith, below)

module _ (first : ℕ) (sights : List Sight) (old new : Totals) (before : TotalsAre first sights old) where
  packets_push : (sight : Sight) → packets_of (sights ++ sight ∷ []) ≡ packets_of sights ++ packets_of (sight ∷ [])
  packets_push sight = filter_map-append packet_in sights (sight ∷ [])

  -- The next item is neither a packet nor an interface.
  pub totals_push : (sight : Sight) → packets_of (sight ∷ []) ≡ [] → interfaces_in sight ≡ 0 → new.all ≡ old.all → new.undescribed ≡ old.undescribed → new.interfaces.items ≡ old.interfaces.items
      → new.refused ≡ counted (old.refused + cond (is_refused sight) 1 0) → new.sections ≡ counted (old.sections + cond (is_section sight) 1 0) → CountsOthers (sights ++ sight ∷ []) new.others
      → TotalsAre first (sights ++ sight ∷ []) new
  totals_push sight none no_interface all undescribed interfaces refused sections others =
      let same : packets_of (sights ++ sight ∷ []) ≡ packets_of sights = packets_push sight ∙ ap (λ (l : List Seen). packets_of sights ++ l) none ∙ append-nil (packets_of sights) in
      record {
        all = rw (same, all) before.all;
        undescribed = rw (same, undescribed) before.undescribed;
        described = omega (arith, ap length interfaces, before.described, no_interface, sum_by_push interfaces_in sights sight);
        by_interface = rw (same, interfaces) before.by_interface;
        within = rw (same, interfaces) before.within;
        refused = refused ∙ counted_push old.refused (count_by is_refused sights) (cond (is_refused sight) 1 0) before.refused ∙ ap counted (sym (count_push is_refused sights sight));
        sections = sections ∙ counted_push old.sections (count_by is_section sights) (cond (is_section sight) 1 0) before.sections ∙ ap counted (sym (count_push is_section sights sight));
        others = others;
      }

  -- A packet or an interface changes neither the number of malformed packets nor that of sections.
  refused_same : (sight : Sight) → is_refused sight ≡ false → new.refused ≡ old.refused → new.refused ≡ counted (count_by is_refused (sights ++ sight ∷ []))
  refused_same sight none same =
      let count : count_by is_refused (sights ++ sight ∷ []) ≡ count_by is_refused sights + 0 = count_push is_refused sights sight ∙ ap (λ (b : Bool). count_by is_refused sights + cond b 1 0) none in
      same ∙ before.refused ∙ ap counted (omega (arith, count))

  sections_same : (sight : Sight) → is_section sight ≡ false → new.sections ≡ old.sections → new.sections ≡ counted (count_by is_section (sights ++ sight ∷ []))
  sections_same sight none same =
      let count : count_by is_section (sights ++ sight ∷ []) ≡ count_by is_section sights + 0 = count_push is_section sights sight ∙ ap (λ (b : Bool). count_by is_section sights + cond b 1 0) none in
      same ∙ before.sections ∙ ap counted (omega (arith, count))

  -- Nothing changes.
  pub totals_stay : new.all ≡ old.all → new.undescribed ≡ old.undescribed → new.interfaces.items ≡ old.interfaces.items → new.refused ≡ old.refused → new.sections ≡ old.sections
      → new.others ≡ old.others → TotalsAre first sights new
  totals_stay all undescribed interfaces refused sections others = record {
    all = rw all before.all;
    undescribed = rw undescribed before.undescribed;
    described = ap length interfaces ∙ before.described;
    by_interface = rw interfaces before.by_interface;
    within = rw interfaces before.within;
    refused = refused ∙ before.refused;
    sections = sections ∙ before.sections;
    others = subst (λ (o : Others). CountsOthers sights o) (sym others) before.others;
  }

  -- The next item is an interface.
  pub totals_described : (late : Late) → Tallies [] (tally_of late) → new.all ≡ old.all → new.undescribed ≡ old.undescribed → new.interfaces.items ≡ old.interfaces.items ++ late ∷ []
      → new.refused ≡ old.refused → new.sections ≡ old.sections → new.others ≡ old.others → TotalsAre first (sights ++ Interface ∷ []) new
  totals_described late nothing all undescribed interfaces refused sections others =
      let items = old.interfaces.items in
      let n = length items in
      let same : packets_of (sights ++ Interface ∷ []) ≡ packets_of sights = packets_push Interface ∙ append-nil (packets_of sights) in
      let long : length new.interfaces.items ≡ n + 1 = ap length interfaces ∙ length-append items (late ∷ []) in
      record {
        all = rw (same, all) before.all;
        undescribed = rw (same, undescribed) before.undescribed;
        described = omega (arith, long, before.described, sum_by_push interfaces_in sights Interface);
        by_interface = λ index d less. elim (cases_lt index n) [
          | inl known ↦ rw (same, interfaces, get_or_append_left items (late ∷ []) d index known) (before.by_interface index d known)
          | inr last ↦
              let here : index ≡ n = omega (arith, last, less, long) in
              rw (same, interfaces, here, get_or_push items late d n refl, none_by n (packets_of sights) before.within) nothing
        ];
        within = rw (same, long) (All-weaker (λ packet. IsBelow n packet.interface) (λ packet. IsBelow (n + 1) packet.interface) (λ packet below. below_more n packet.interface below) (packets_of sights) before.within);
        refused = refused_same Interface refl refused;
        sections = sections_same Interface refl sections;
        others = others_stay sights Interface (λ among. refl) old.others new.others before.others others;
      }

  -- The next item is a packet.
  module _ (seen : Seen) (within : IsBelow (length old.interfaces.items) seen.interface) (all : Tallies (packets_of sights ++ seen ∷ []) new.all) (refused : new.refused ≡ old.refused) (sections : new.sections ≡ old.sections) (others : new.others ≡ old.others) where
    -- Its interface isn't described.
    pub totals_undescribed : seen.interface ≡ None → Tallies (filter is_undescribed (packets_of sights) ++ seen ∷ []) new.undescribed → new.interfaces.items ≡ old.interfaces.items
        → TotalsAre first (sights ++ Packet seen ∷ []) new
    totals_undescribed none more interfaces = record {
      all = rw (packets_push (Packet seen)) all;
      undescribed = rw (packets_push (Packet seen), filter_yes is_undescribed (packets_of sights) seen (ap is_none none)) more;
      described = omega (arith, ap length interfaces, before.described, sum_by_push interfaces_in sights (Packet seen));
      by_interface = λ index d less. rw (packets_push (Packet seen), interfaces, filter_no (is_by index) (packets_of sights) seen (ap (is_number index) none)) (before.by_interface index d (rw interfaces at less));
      within = rw (packets_push (Packet seen), interfaces) (All-push (λ packet. IsBelow (length old.interfaces.items) packet.interface) (packets_of sights) seen before.within within);
      refused = refused_same (Packet seen) refl refused;
      sections = sections_same (Packet seen) refl sections;
      others = others_stay sights (Packet seen) (λ among. refl) old.others new.others before.others others;
    }

    -- Its interface has this index.
    pub totals_by : (i : ℕ) (late : Late) → seen.interface ≡ Some i → i < length old.interfaces.items → Tallies (filter (is_by i) (packets_of sights) ++ seen ∷ []) (tally_of late) → new.undescribed ≡ old.undescribed
        → new.interfaces.items ≡ set old.interfaces.items i late → TotalsAre first (sights ++ Packet seen ∷ []) new
    totals_by i late is below more undescribed interfaces =
        let items = old.interfaces.items in
        let long : length new.interfaces.items ≡ length items = ap length interfaces ∙ length-set items i late in
        record {
          all = rw (packets_push (Packet seen)) all;
          undescribed = rw (packets_push (Packet seen), filter_no is_undescribed (packets_of sights) seen (ap is_none is), undescribed) before.undescribed;
          described = omega (arith, long, before.described, sum_by_push interfaces_in sights (Packet seen));
          by_interface = λ index d less. elim (cases_eq index i) [
            | inl same ↦ rw (packets_push (Packet seen), interfaces, same, filter_yes (is_by i) (packets_of sights) seen (ap (is_number i) is ∙ eq-eqb i i refl), get_or-set_same items i late d below) more
            | inr other ↦
                rw (packets_push (Packet seen), interfaces, filter_no (is_by index) (packets_of sights) seen (ap (is_number index) is ∙ ne_eqb i index (λ at. other (sym at))), get_or-set_other items i index late d other)
                (before.by_interface index d (omega (arith, less, long)))
          ];
          within = rw (packets_push (Packet seen), long) (All-push (λ packet. IsBelow (length items) packet.interface) (packets_of sights) seen before.within within);
          refused = refused_same (Packet seen) refl refused;
          sections = sections_same (Packet seen) refl sections;
          others = others_stay sights (Packet seen) (λ among. refl) old.others new.others before.others others;
        }
