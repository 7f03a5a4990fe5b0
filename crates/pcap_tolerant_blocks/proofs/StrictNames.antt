-- The answers of strict reading for names that are also read leniently.
use Rattle.std.proofs.Common.{◌≡◌, ◌≢◌, ℕ, List, [], ◌∷◌, ◌++◌, map, refl, sym, ap, subst, ◌∙◌, append_assoc}
use Rattle.std.specs.List.{flat_map}
use Rattle.std.proofs.lemmas.List.Concat.{flat_map-cons}
use Rattle.pcap_core.specs.Answer.{Order, Verdict, whole, faulty}
use Rattle.pcap_core.specs.Faults.{Fault}
use Rattle.pcap_core.specs.Padded.{Chain}
use Rattle.pcap_options.specs.Values.{Entry}
use Rattle.pcap_options.specs.Options.{may_end_with_body, ListSays}
use Rattle.pcap_options.specs.Record.{NameRecord, End, form_of, RecordValueSays, RecordText, RecordFault, wrong}
use Rattle.pcap_options.specs.NameOption.{name_resolution}
use Rattle.pcap_options.specs.Records.{KeptText, RecordsText}
use Rattle.pcap_blocks.specs.NameResolution.{Resolution, ResolutionText, ResolutionFault, in_records, in_options, ResolutionSays}
use Rattle.pcap_blocks.proofs.OneResolution.{resolution_one}
use Rattle.pcap_tolerant_blocks.specs.Flaws.{Said, Flawed, StrictIs}
use Rattle.pcap_tolerant_blocks.specs.OptionsAsIs.{OptionsAsIs}
use Rattle.pcap_tolerant_blocks.specs.NamesAsIs.{only, IsJudged, sound, broken, Delimited, KeptAsIs, BehindRecords, ended, cut, record_in, flaws_of, NamesText}
use Rattle.pcap_tolerant_blocks.proofs.StrictLists.{list_there}
use Rattle.pcap_tolerant_blocks.proofs.RecordsAsIs.{end_type}

module _ (order : Order) where
  names_at : List NameRecord → List Entry → Resolution
  names_at records options = record { records = records; options = options }

  -- An answer of strict reading that is the one of the law.
  There : List NameRecord → List Entry → List Said → List ℕ → List ℕ → Type 0
  There records options flaws s rest = (v : Verdict Resolution) × ResolutionSays order s v × StrictIs flaws (names_at records options) rest v

  record_before : (r : NameRecord) (records : List NameRecord) (s after rest : List ℕ) → KeptText order r s after → RecordsText order records after rest → RecordsText order (r ∷ records) s rest
  record_before r records s after rest kept x = record { end = x.end; are = (after, kept, x.are); ends = x.ends }

  fault_before : (r : NameRecord) (s after : List ℕ) (f : Fault) → KeptText order r s after → ResolutionFault order after f → ResolutionFault order s f
  fault_before r s after f kept (in_records x) = in_records (record { good = r ∷ x.good; bad = x.bad; are_good = (after, kept, x.are_good); fault_is = x.fault_is })
  fault_before r s after f kept (in_options records behind x fault) = in_options (r ∷ records) behind (record_before r records s after behind kept x) fault

  good_more : (r : NameRecord) (records : List NameRecord) (options : List Entry) (flaws : List Said) (s after rest : List ℕ) → KeptText order r s after → There records options flaws after rest → There (r ∷ records) options flaws s rest
  unfolding There names_at
  good_more r records options [] s after rest kept t =
      let text : ResolutionText order (names_at records options) after rest = subst (λ (v : Verdict Resolution). ResolutionSays order after v) t.2 t.1 in
      let more : ResolutionText order (names_at (r ∷ records) options) s rest = record { after = text.after; records_are = record_before r records s after text.after kept text.records_are; options_are = text.options_are } in
      (whole (names_at (r ∷ records) options) rest, more, refl)
  good_more r records options (first ∷ others) s after rest kept t =
      let fault : ResolutionFault order after first.fault = subst (λ (v : Verdict Resolution). ResolutionSays order after v) t.2 t.1 in
      (faulty first.fault, fault_before r s after first.fault kept fault, refl)

  flaw_first : (f : Fault) (records : List NameRecord) (options : List Entry) (others : List Said) (s rest : List ℕ) → RecordFault order s f → There records options (only f ++ others) s rest
  unfolding There
  flaw_first f records options others s rest stands = (faulty f, in_records (record { good = []; bad = s; are_good = refl; fault_is = stands }), refl)

  delimited_fault : (type : ℕ) (v s rest : List ℕ) (f : Fault) → Delimited order type v s rest → RecordValueSays (form_of type) v (faulty f) → RecordFault order s f
  delimited_fault type v s rest f d says = wrong f type v d.after_head (d.padded.padding ++ rest) d.head (d.padded.text ∙ append_assoc v d.padded.padding rest) says

  -- One more record in front, whatever its value is.
  judged_more : (r : Flawed NameRecord) (type : ℕ) (v : List ℕ) (records : List NameRecord) (options : List Entry) (others : List Said) (s after rest : List ℕ) → type ≢ 0 → Delimited order type v s after → IsJudged type v r
      → There records options others after rest → There (r.value ∷ records) options (r.flaws ++ others) s rest
  judged_more r type v records options others s after rest apart d (sound q says) t =
      let kept : KeptText order q s after = record {
        record_is = record { type = type; v = v; after = d.after_head; head = d.head; value_is = says; padded = d.padded };
        no_end = λ e. apart (end_type order type v (subst (λ (k : NameRecord). RecordValueSays (form_of type) v (whole k [])) e says));
      } in
      good_more q records options others s after rest kept t
  judged_more r type v records options others s after rest apart d (broken f says) t = flaw_first f (r.value ∷ records) options others s rest (delimited_fault type v s after f d says)

  options_there : (options : List Entry) (flaws : List Said) (s after rest : List ℕ) → RecordsText order [] s after → (v : Verdict (List Entry)) × ListSays may_end_with_body order name_resolution after v × StrictIs flaws options rest v
      → There [] options flaws s rest
  unfolding There names_at
  options_there options [] s after rest records t =
      let text : ResolutionText order (names_at [] options) s rest = record { after = after; records_are = records; options_are = subst (λ (v : Verdict (List Entry)). ListSays may_end_with_body order name_resolution after v) t.2 t.1 } in
      (whole (names_at [] options) rest, text, refl)
  options_there options (first ∷ others) s after rest records t =
      (faulty first.fault, in_options [] after records (subst (λ (v : Verdict (List Entry)). ListSays may_end_with_body order name_resolution after v) t.2 t.1), refl)

  ended_there : (end : Flawed NameRecord) (v : List ℕ) (options : List Entry) (flaws : List Said) (s after rest : List ℕ) → Delimited order 0 v s after → IsJudged 0 v end → OptionsAsIs order name_resolution options flaws after rest
      → There [] options (end.flaws ++ flaws) s rest
  ended_there end v options flaws s after rest d (sound q says) list =
      let text : RecordText order End s after = record { type = 0; v = v; after = d.after_head; head = d.head; value_is = (refl, says.1, refl); padded = d.padded } in
      let records : RecordsText order [] s after = record { end = s; are = refl; ends = text } in
      options_there options flaws s after rest records (list_there order name_resolution options flaws after rest list)
  ended_there end v options flaws s after rest d (broken f says) list = flaw_first f [] options flaws s rest (delimited_fault 0 v s after f d says)

  at_end : (options : List Entry) (last : List Said) (s rest : List ℕ) → BehindRecords order s rest options last → There [] options last s rest
  at_end options last s rest (ended end after os flaws typed list) = ended_there end typed.v os flaws s after rest typed.text typed.is list
  at_end options last s rest (cut f none stands is) = flaw_first f [] [] [] s rest stands

  strict_there : (each : List (Flawed NameRecord)) (options : List Entry) (last : List Said) (s stop rest : List ℕ) → Chain (KeptAsIs order) each s stop → BehindRecords order stop rest options last
      → There (map record_in each) options (flat_map flaws_of each ++ last) s rest
  strict_there [] options last s stop rest are behind = subst (λ (l : List ℕ). There [] options last l rest) (sym are) (at_end options last stop rest behind)
  strict_there (r ∷ each) options last s stop rest are behind =
      let kept = are.1 in
      let flaws : flat_map flaws_of (r ∷ each) ++ last ≡ r.flaws ++ (flat_map flaws_of each ++ last) = ap (λ (l : List Said). l ++ last) (flat_map-cons flaws_of r each) ∙ append_assoc r.flaws (flat_map flaws_of each) last in
      let more = judged_more r kept.type kept.typed.v (map record_in each) options (flat_map flaws_of each ++ last) s are.0 rest kept.no_end kept.typed.text kept.typed.is (strict_there each options last are.0 stop rest are.2 behind) in
      subst (λ (l : List Said). There (r.value ∷ map record_in each) options l s rest) (sym flaws) more

  pub names_strict : (names : Resolution) (flaws : List Said) (s rest : List ℕ) (v : Verdict Resolution) → NamesText order names flaws s rest → ResolutionSays order s v → StrictIs flaws names rest v
  unfolding There names_at
  names_strict names flaws s rest v x y =
      let here : There names.records names.options flaws s rest = rw (x.records_are, x.flaws_are) (strict_there x.each names.options x.last s x.stop rest x.are x.behind) in
      let one = resolution_one order s in
      subst (λ (w : Verdict Resolution). StrictIs flaws names rest w) (one.only here.0 here.1 ∙ sym (one.only v y)) here.2
