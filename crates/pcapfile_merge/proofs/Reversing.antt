-- Options whose numbers are reversed one option after another.
use Rattle.std.proofs.Common.{◌≡◌, ◌+◌, ◌<◌, ℕ, List, [], ◌∷◌, ◌++◌, length, map, take, drop, set, get_or, arith, refl, sym, ap, ◌∙◌, subst}
use Rattle.std.specs.List.{Any}
use Rattle.std.proofs.lemmas.List.{drop-set-lt, drop_more, get_or-map, length-map, length-set, map-id, map_push, take_more, take_more_set}
use Rattle.std.proofs.lemmas.Grind.{drop_more_same}
use Rattle.pcap_core.specs.declared.common.Endianness.{Endianness}
use Rattle.pcap_core.specs.declared.common.Endianness.TheVariants.{Big, Little}
use Rattle.pcap_options.specs.declared.enhanced_option.EnhancedPacketOption.{EnhancedPacketOption}
use Rattle.pcap_options.specs.EnhancedOption.{enhanced_entry}
use Rattle.pcap_options.specs.Values.{Entry}
use Rattle.pcapfile_merge.specs.Reordered.{HasNumbers, little_entry}

-- The numbers of the first i options are reversed, and the other options stay.
pub record Reversed (old now : List EnhancedPacketOption) (i : ℕ) : Type 0 where
  pub front : map enhanced_entry (take i now) ≡ map (little_entry Big) (map enhanced_entry (take i old))
  pub back : drop i now ≡ drop i old
  pub same_length : length now ≡ length old

pub reversed_none : (old : List EnhancedPacketOption) → Reversed old old 0
reversed_none old = record { front = refl; back = refl; same_length = refl }

-- The entries of options, as a little-endian section has them.
in_little : List EnhancedPacketOption → List Entry
in_little options = map (little_entry Big) (map enhanced_entry options)

module _ (old now : List EnhancedPacketOption) (i : ℕ) (so_far : Reversed old now i) (within : i < length now) where
  within_old : i < length old
  within_old = subst (λ (n : ℕ). i < n) so_far.same_length within

  -- The next option is the old one.
  same_there : (d : EnhancedPacketOption) → get_or now i d ≡ get_or old i d
  same_there d =
      let rest : get_or now i d ∷ drop (i + 1) now ≡ get_or old i d ∷ drop (i + 1) old = sym (drop_more now i d within) ∙ so_far.back ∙ drop_more old i d within_old in
      ap (λ (l : List EnhancedPacketOption). get_or l 0 d) rest

  -- One more option is reversed.
  pub reversed_more : (d y : EnhancedPacketOption) → enhanced_entry y ≡ little_entry Big (enhanced_entry (get_or now i d)) → Reversed old (set now i y) (i + 1)
  unfolding in_little
  reversed_more d y turned =
      let there = get_or old i d in
      let pushed : in_little (take i old ++ there ∷ []) ≡ in_little (take i old) ++ little_entry Big (enhanced_entry there) ∷ [] =
      ap (map (little_entry Big)) (map_push enhanced_entry (take i old) there) ∙ map_push (little_entry Big) (map enhanced_entry (take i old)) (enhanced_entry there) in
      let entry : enhanced_entry y ≡ little_entry Big (enhanced_entry there) = turned ∙ ap (λ (o : EnhancedPacketOption). little_entry Big (enhanced_entry o)) (same_there d) in
      let lies : i < i + 1 = omega arith in
      record {
        front =
            ap (map enhanced_entry) (take_more_set now i y within)
            ∙ map_push enhanced_entry (take i now) y
            ∙ ap (λ (es : List Entry). es ++ enhanced_entry y ∷ []) so_far.front
            ∙ ap (λ (e : Entry). in_little (take i old) ++ e ∷ []) entry
            ∙ sym pushed
            ∙ ap in_little (sym (take_more old i d within_old));
        back = drop-set-lt (i + 1) now i y lies ∙ drop_more_same now old i so_far.back;
        same_length = length-set now i y ∙ so_far.same_length;
      }

  -- If the next option has numbers, some option had.
  pub some_numbers : (d : EnhancedPacketOption) → HasNumbers (enhanced_entry (get_or now i d)) → Any HasNumbers (map enhanced_entry old)
  some_numbers d has =
      let x = enhanced_entry (get_or now i d) in
      let there : get_or (map enhanced_entry old) i x ≡ x = get_or-map enhanced_entry old i d x within_old ∙ ap enhanced_entry (sym (same_there d)) in
      (i, x, subst (λ (n : ℕ). i < n) (sym (length-map old enhanced_entry)) within_old, there, has)

-- The options of a little-endian section stay.
pub little_stays : (order : Endianness) → order ≡ Little → (options : List Entry) → options ≡ map (little_entry order) options
little_stays order is options = sym (ap (λ (e : Endianness). map (little_entry e) options) is ∙ map-id options)
