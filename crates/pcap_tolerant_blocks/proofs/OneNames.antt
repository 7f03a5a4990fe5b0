-- Lenient reading of names gives exactly one answer for any bytes, and a list grows there under known conditions.
use Rattle.std.proofs.Common.{◌≡◌, ◌≢◌, ◌<◌, ℕ, zero, suc, List, [], ◌∷◌, ◌++◌, length, map, true, false, refl, sym, ap, subst, ◌∙◌, arith, append_assoc, inl, inr}
use Rattle.std.specs.Prelude.{◌⊎◌}
use Rattle.std.specs.List.{flat_map}
use Rattle.pcap_core.specs.Answer.{Order, Verdict, whole, lacks, faulty}
use Rattle.pcap_core.specs.Faults.{Fault, Io}
use Rattle.pcap_core.specs.Laws.{ExactlyOne}
use Rattle.pcap_core.specs.Padded.{Chain}
use Rattle.pcap_core.proofs.Numbers.{Values, NumbersSay, numbers_one}
use Rattle.pcap_core.proofs.OnePadded.{PaddedSays, padded_one, padded_length}
use Rattle.pcap_core.proofs.Verdicts.{Stopped, IsMany, one_stopped}
use Rattle.pcap_core.proofs.Verdicts.{whole_same}
use Rattle.pcap_options.specs.Values.{Entry}
use Rattle.pcap_options.specs.Options.{CodeLengthText}
use Rattle.pcap_options.specs.Record.{NameRecord, RecordFault, RecordSays}
use Rattle.pcap_options.specs.NameOption.{name_resolution}
use Rattle.pcap_blocks.specs.NameResolution.{Resolution}
use Rattle.pcap_options.proofs.OneList.{head_length}
use Rattle.pcap_options.proofs.OneOption.{widths, head_from}
use Rattle.pcap_options.proofs.OneRecord.{record_one}
use Rattle.pcap_options.proofs.ReadOptions.{head_with}
use Rattle.pcap_tolerant_blocks.specs.Flaws.{Said, Flawed}
use Rattle.pcap_tolerant_blocks.specs.OptionsAsIs.{OptionsAsIs, OptionsAsIsSay, OptionsGrow}
use Rattle.pcap_tolerant_blocks.specs.NamesAsIs.{only, broken, Delimited, NoExtent, no_head, no_bytes, TypedText, KeptAsIs, BehindRecords, ended, cut, record_in, flaws_of, NamesText, NamesAsIsSay, RecordsGrow, NamesGrow, RecordsText, with_end, without_end}
use Rattle.pcap_tolerant_blocks.proofs.OneAsIs.{one_image, list_one}
use Rattle.pcap_tolerant_blocks.proofs.RecordsAsIs.{no_extent_delimited, delimited_same, typed_same, end_no_kept, as_it_is, as_bytes, strict_typed, value_fault}

-- The records, and the options behind them.
abbrev Reading : Type 0
Reading = List (Flawed NameRecord) × Flawed (List Entry)

flawed : List Entry → List Said → Flawed (List Entry)
flawed options flaws = record { value = options; flaws = flaws }

made : List (Flawed NameRecord) → Flawed (List Entry) → List ℕ → Verdict Reading
made records behind rest = whole (records, behind) rest

module _ (order : Order) where
  Stop : List (Flawed NameRecord) → List ℕ → Verdict Reading → Type 0
  Stop good s (whole x rest) = (x.0 ≡ good) × BehindRecords order s rest x.1.value x.1.flaws
  Stop good s (lacks n) = ⊥
  Stop good s (faulty f) = ⊥

  item_same : (r q : Flawed NameRecord) (s a b : List ℕ) → KeptAsIs order r s a → KeptAsIs order q s b → (r ≡ q) × (a ≡ b)
  item_same r q s a b h k = let same = typed_same order h.type k.type r q s a b h.typed k.typed in (same.1, same.2)

  item_shorter : (r : Flawed NameRecord) (s a : List ℕ) → KeptAsIs order r s a → length a < length s
  item_shorter r s a h = let d = h.typed.text in omega (arith, head_length order h.type (length h.typed.v) s d.after_head d.head, padded_length h.typed.v d.after_head a d.padded)

  record_same : (s : List ℕ) (f g : Fault) → RecordFault order s f → RecordFault order s g → f ≡ g
  record_same s f g h k = let one = record_one order s in let both = one.only (faulty f) h ∙ sym (one.only (faulty g) k) in cc

  behind_same : (s a b : List ℕ) (os ps : List Entry) (fs gs : List Said) → BehindRecords order s a os fs → BehindRecords order s b ps gs → (flawed os fs ≡ flawed ps gs) × (a ≡ b)
  unfolding flawed
  behind_same s a b os ps fs gs (ended e m o f typed list) (ended d n p g other behind) =
      let same = typed_same order 0 0 e d s m n typed other in
      let here : OptionsAsIs order name_resolution p g m b = subst (λ (l : List ℕ). OptionsAsIs order name_resolution p g l b) (sym same.2) behind in
      let one = list_one order name_resolution m in
      let both = whole_same (flawed o f) (flawed p g) a b (one.only (whole (flawed o f) a) list ∙ sym (one.only (whole (flawed p g) b) here)) in
      let options : o ≡ p = ap (λ (x : Flawed (List Entry)). x.value) both.0 in
      let flaws : f ≡ g = ap (λ (x : Flawed (List Entry)). x.flaws) both.0 in
      let whole_same : flawed o (e.flaws ++ f) ≡ flawed p (d.flaws ++ g) = rw (options, flaws, ap flaws_of same.1) refl in
      (whole_same, both.1)
  behind_same s a b os ps fs gs (ended e m o f typed list) (cut g none stands is) = absurd (no_extent_delimited order 0 typed.v s m none typed.text)
  behind_same s a b os ps fs gs (cut f none stands is) (ended d n p g typed list) = absurd (no_extent_delimited order 0 typed.v s n none typed.text)
  behind_same s a b os ps fs gs (cut f none stands is) (cut g other there at) = (ap (λ (x : Fault). flawed [] (only x)) (record_same s f g stands there), is ∙ sym at)

  stop_same : (good : List (Flawed NameRecord)) (s : List ℕ) (v w : Verdict Reading) → Stop good s v → Stop good s w → w ≡ v
  unfolding Stop made flawed
  stop_same good s (whole x a) (whole y b) h k =
      let same = behind_same s a b x.1.value y.1.value x.1.flaws y.1.flaws h.1 k.1 in
      let whole_same : made y.0 y.1 b ≡ made x.0 x.1 a = rw (h.0, k.0, same.0, same.1) refl in
      whole_same
  stop_same good s (lacks n) w h k = absurd h
  stop_same good s (faulty f) w h k = absurd h
  stop_same good s _ _ h k = absurd k

  behind_no_item : (s a b : List ℕ) (os : List Entry) (fs : List Said) (r : Flawed NameRecord) → BehindRecords order s a os fs → KeptAsIs order r s b → ⊥
  behind_no_item s a b os fs r (ended e m o f typed list) k = end_no_kept order e r s m b typed k
  behind_no_item s a b os fs r (cut f none stands is) k = no_extent_delimited order k.type k.typed.v s b none k.typed.text

  stop_no_item : (good : List (Flawed NameRecord)) (s : List ℕ) (w : Verdict Reading) (r : Flawed NameRecord) (a : List ℕ) → Stop good s w → KeptAsIs order r s a → ⊥
  unfolding Stop
  stop_no_item good s (whole x b) r a h k = behind_no_item s b a x.1.value x.1.flaws r h.1 k
  stop_no_item good s (lacks n) r a h k = h
  stop_no_item good s (faulty f) r a h k = h

  -- ---- any bytes have an answer

  padded_there : (type len : ℕ) (s after : List ℕ) → CodeLengthText order type len s after → (w : Verdict (List ℕ)) → PaddedSays Io len after w → NoExtent order s ⊎ ((v : List ℕ) × (rest : List ℕ) × Delimited order type v s rest)
  padded_there type len s after head (whole v rest) h = inr (v, rest, record { after_head = after; head = head_with order type len v s after head h.1; padded = h.0 })
  padded_there type len s after head (lacks n) h = absurd h
  padded_there type len s after head (faulty f) h = inl (no_bytes type len after head h.1)

  numbers_there : (s : List ℕ) (w : Verdict (Values widths)) → NumbersSay order Io widths s w → NoExtent order s ⊎ ((type : ℕ) × (v : List ℕ) × (rest : List ℕ) × Delimited order type v s rest)
  numbers_there s (whole ns after) h =
      let one = padded_one Io ns.1.0 after in
      elim (padded_there ns.0 ns.1.0 s after (head_from order ns s after h) one.value one.holds) [
        | inl none ↦ inl none
        | inr d ↦ inr (ns.0, d.0, d.1, d.2)
      ]
  numbers_there s (lacks n) h = absurd h
  numbers_there s (faulty f) h = inl (no_head h.1)

  judged_bytes : (type : ℕ) (v s rest : List ℕ) (f : Fault) → Delimited order type v s rest → RecordFault order s f → TypedText order type (as_bytes type v f) s rest
  judged_bytes type v s rest f d stands = record { v = v; text = d; is = broken f (value_fault order type v s rest f d stands) }

  judged_there : (type : ℕ) (v s rest : List ℕ) → Delimited order type v s rest → (w : Verdict NameRecord) → RecordSays order s w → (r : Flawed NameRecord) × TypedText order type r s rest
  judged_there type v s rest d (whole r more) h =
      let t = strict_typed order r s more h in
      let same = delimited_same order h.type type t.v v s more rest t.text d in
      (as_it_is r, subst (λ (l : List ℕ). TypedText order type (as_it_is r) s l) same.2 (subst (λ (n : ℕ). TypedText order n (as_it_is r) s more) same.0 t))
  judged_there type v s rest d (lacks n) h = absurd h
  judged_there type v s rest d (faulty f) h = (as_bytes type v f, judged_bytes type v s rest f d h)

  fault_there : (s : List ℕ) → NoExtent order s → (w : Verdict NameRecord) → RecordSays order s w → (f : Fault) × RecordFault order s f
  fault_there s none (whole r rest) h = absurd (no_extent_delimited order h.type h.v s rest none (record { after_head = h.after; head = h.head; padded = h.padded }))
  fault_there s none (lacks n) h = absurd h
  fault_there s none (faulty f) h = (f, h)

  end_there : (good : List (Flawed NameRecord)) (s rest : List ℕ) (end : Flawed NameRecord) → TypedText order 0 end s rest → (w : Verdict (Flawed (List Entry))) → OptionsAsIsSay order name_resolution rest w
      → (w : Verdict Reading) × Stop good s w
  unfolding Stop flawed
  end_there good s rest end typed (whole x left) h = (whole (good, flawed x.value (end.flaws ++ x.flaws)) left, (refl, ended end rest x.value x.flaws typed h))
  end_there good s rest end typed _ h = absurd h

  typed_there : (good : List (Flawed NameRecord)) (s rest : List ℕ) (type : ℕ) (r : Flawed NameRecord) → TypedText order type r s rest
      → ((w : Verdict Reading) × Stop good s w) ⊎ ((r : Flawed NameRecord) × (a : List ℕ) × KeptAsIs order r s a)
  typed_there good s rest zero r typed = let list = list_one order name_resolution rest in inl (end_there good s rest r typed list.value list.holds)
  typed_there good s rest (suc n) r typed = inr (r, rest, record { type = suc n; no_end = λ e. omega (arith, e); typed = typed })

  cut_there : (good : List (Flawed NameRecord)) (s : List ℕ) → NoExtent order s → (w : Verdict Reading) × Stop good s w
  unfolding Stop flawed
  cut_there good s none = let f = fault_there s none (record_one order s).value (record_one order s).holds in (whole (good, flawed [] (only f.0)) s, (refl, cut f.0 none f.1 refl))

  stop_or_record : (good : List (Flawed NameRecord)) (s : List ℕ) → ((w : Verdict Reading) × Stop good s w) ⊎ ((r : Flawed NameRecord) × (a : List ℕ) × KeptAsIs order r s a)
  stop_or_record good s =
      elim (numbers_there s (numbers_one order Io widths s).value (numbers_one order Io widths s).holds) [
        | inl none ↦ inl (cut_there good s none)
        | inr d ↦
            let t = judged_there d.0 d.1 s d.2 d.3 (record_one order s).value (record_one order s).holds in
            typed_there good s d.2 d.0 t.0 t.1
      ]

  many : IsMany (KeptAsIs order) Stop
  many = record { item_same = item_same; item_shorter = item_shorter; stop_same = stop_same; stop_no_item = stop_no_item; one_of_both = stop_or_record }

  -- ---- the names of a reading

  names_with : List NameRecord → List Entry → List Said → List ℕ → Verdict (Flawed Resolution)
  names_with records options flaws rest = whole (record { value = record { records = records; options = options }; flaws = flaws }) rest

  names_in : Verdict Reading → Verdict (Flawed Resolution)
  names_in (whole x rest) = names_with (map record_in x.0) x.1.value (flat_map flaws_of x.0 ++ x.1.flaws) rest
  names_in (lacks n) = lacks n
  names_in (faulty f) = faulty f

  names_to : (s : List ℕ) (w : Verdict Reading) → Stopped (KeptAsIs order) Stop s w → NamesAsIsSay order s (names_in w)
  unfolding Stop names_in names_with
  names_to s (whole x rest) t = record {
    each = x.0;
    stop = t.1;
    last = x.1.flaws;
    are = subst (λ (l : List (Flawed NameRecord)). Chain (KeptAsIs order) l s t.1) (sym t.3.0) t.2;
    behind = t.3.1;
    records_are = refl;
    flaws_are = refl;
  }
  names_to s (lacks n) t = t.3
  names_to s (faulty f) t = t.3

  names_from : (s : List ℕ) (v : Verdict (Flawed Resolution)) → NamesAsIsSay order s v → (w : Verdict Reading) × Stopped (KeptAsIs order) Stop s w × (v ≡ names_in w)
  unfolding Stop names_in names_with flawed
  names_from s (whole x rest) h =
      let same : names_with x.value.records x.value.options x.flaws rest ≡ names_with (map record_in h.each) x.value.options (flat_map flaws_of h.each ++ h.last) rest = rw (h.records_are, h.flaws_are) refl in
      (whole (h.each, flawed x.value.options h.last) rest, (h.each, h.stop, h.are, (refl, h.behind)), same)
  names_from s _ h = absurd h

  pub names_one : (s : List ℕ) → ExactlyOne (NamesAsIsSay order s)
  names_one s = one_image (Stopped (KeptAsIs order) Stop s) (NamesAsIsSay order s) names_in (names_to s) (names_from s) (one_stopped (KeptAsIs order) Stop many s)

  -- ---- what the code reads

  pub names_ended : (records : List NameRecord) (options : List Entry) (flaws more : List Said) (s left rest : List ℕ) → RecordsText order s records flaws left true → OptionsAsIs order name_resolution options more left rest
      → NamesText order (record { records = records; options = options }) (flaws ++ more) s rest
  names_ended records options flaws more s left rest (with_end each end stop are typed records_are flaws_are) list = record {
    each = each;
    stop = stop;
    last = end.flaws ++ more;
    are = are;
    behind = ended end left options more typed list;
    records_are = records_are;
    flaws_are = ap (λ (l : List Said). l ++ more) flaws_are ∙ append_assoc (flat_map flaws_of each) end.flaws more;
  }

  pub names_cut : (records : List NameRecord) (flaws : List Said) (s left : List ℕ) → RecordsText order s records flaws left false → NamesText order (record { records = records; options = [] }) flaws s left
  names_cut records flaws s left (without_end each fault are none stands records_are flaws_are) =
      record { each = each; stop = left; last = only fault; are = are; behind = cut fault none stands refl; records_are = records_are; flaws_are = flaws_are }

  both_empty : (a b : List Said) → [] ≡ a ++ b → (a ≡ []) × (b ≡ [])
  both_empty [] b e = (refl, sym e)
  both_empty (x ∷ a) b e = absurd cc

  -- If nothing is kept, there is only the end, and options of which nothing is kept.
  record BareAt (s : List ℕ) : Type 0 where
    end : Flawed NameRecord
    after : List ℕ
    rest : List ℕ
    typed : TypedText order 0 end s after
    none : end.flaws ≡ []
    bare : OptionsAsIs order name_resolution [] [] after rest

  bare_behind : (s rest : List ℕ) (options : List Entry) (flaws : List Said) → BehindRecords order s rest options flaws → options ≡ [] → [] ≡ flaws → BareAt s
  bare_behind s rest options flaws (ended end after os fs typed list) none empty =
      let both = both_empty end.flaws fs empty in
      let here : OptionsAsIs order name_resolution [] [] after rest =
      subst (λ (l : List Entry). OptionsAsIs order name_resolution l [] after rest) none (subst (λ (l : List Said). OptionsAsIs order name_resolution os l after rest) both.1 list) in
      record { end = end; after = after; rest = rest; typed = typed; none = both.0; bare = here }
  bare_behind s rest options flaws (cut f none stands is) nothing empty = absurd cc

  bare_each : (each : List (Flawed NameRecord)) (last : List Said) (options : List Entry) (s stop rest : List ℕ) → [] ≡ map record_in each → [] ≡ flat_map flaws_of each ++ last → Chain (KeptAsIs order) each s stop
      → BehindRecords order stop rest options last → options ≡ [] → BareAt s
  bare_each [] last options s stop rest records flaws are behind none = subst BareAt (sym are) (bare_behind stop rest options last behind none flaws)
  bare_each (r ∷ each) last options s stop rest records flaws are behind none = absurd cc

  names_bare : (names : Resolution) (s rest : List ℕ) → NamesText order names [] s rest → names.records ≡ [] → names.options ≡ [] → BareAt s
  names_bare names s rest x records options = bare_each x.each x.last names.options s x.stop rest (sym records ∙ x.records_are) x.flaws_are x.are x.behind options

  pub names_grow : (s : List ℕ) → RecordsGrow order s → NamesGrow order s
  names_grow s grows value rest text bare = let b = names_bare value s rest text bare.0 bare.1 in grows b.end b.after b.typed b.none

  behind_end : (each : List (Flawed NameRecord)) (end other : Flawed NameRecord) (s stop left after : List ℕ) → Chain (KeptAsIs order) each s stop → TypedText order 0 end stop left → TypedText order 0 other s after → left ≡ after
  behind_end [] end other s stop left after are typed at = (typed_same order 0 0 end other stop left after typed (subst (λ (l : List ℕ). TypedText order 0 other l after) are at)).2
  behind_end (r ∷ each) end other s stop left after are typed at = absurd (end_no_kept order other r s after are.0 at are.1)

  pub options_grow : (records : List NameRecord) (flaws : List Said) (s left : List ℕ) → RecordsText order s records flaws left true → OptionsGrow order name_resolution left → NamesGrow order s
  options_grow records flaws s left (with_end each end stop are typed records_are flaws_are) grows value rest text bare =
      let b = names_bare value s rest text bare.0 bare.1 in
      let here : OptionsAsIs order name_resolution [] [] left b.rest = subst (λ (l : List ℕ). OptionsAsIs order name_resolution [] [] l b.rest) (sym (behind_end each end b.end s stop left b.after are typed b.typed)) b.bare in
      grows [] b.rest here refl

  -- A list grows for options with a flaw.
  pub flaws_grow : (options : List Entry) (flaws : List Said) (s rest : List ℕ) → OptionsAsIs order name_resolution options flaws s rest → flaws ≢ [] → OptionsGrow order name_resolution s
  unfolding flawed
  flaws_grow options flaws s rest list some value left text bare =
      let one = list_one order name_resolution s in
      let same = (whole_same (flawed options flaws) (flawed value []) rest left (one.only (whole (flawed options flaws) rest) list ∙ sym (one.only (whole (flawed value []) left) text))).0 in
      some (ap (λ (x : Flawed (List Entry)). x.flaws) same)
