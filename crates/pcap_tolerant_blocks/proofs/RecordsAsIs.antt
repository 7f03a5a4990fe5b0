-- Lists of name records read leniently, one record after the other.
use Rattle.std.proofs.Common.{◌≡◌, ◌≢◌, ℕ, List, [], ◌∷◌, ◌++◌, length, map, Bool, true, false, Some, None, if◌then◌else◌, refl, sym, ap, subst, ◌∙◌, arith}
use Rattle.std.specs.Prelude.{◌==◌}
use Rattle.std.specs.List.{flat_map}
use Rattle.std.proofs.lemmas.Bool.{eqb-true}
use Rattle.std.proofs.lemmas.List.{append-nil, map-append}
use Rattle.std.proofs.lemmas.List.Concat.{flat_map-append}
use Rattle.pcap_core.specs.Answer.{Order, Number, Verdict, whole, faulty, Refuses}
use Rattle.pcap_core.specs.Faults.{Fault, Io, Names}
use Rattle.pcap_core.specs.declared.errors.PcapError.{PcapError}
use Rattle.pcap_core.specs.declared.errors.PcapError.TheVariants.{IoError, InvalidField, Utf8Error, OutOfMemory}
use Rattle.pcap_core.specs.declared.rules.Rule.{Rule}
use Rattle.pcap_core.specs.Padded.{Padded, Chain}
use Rattle.pcap_core.specs.Bytes.{cow_bytes}
use Rattle.pcap_core.specs.declared.rules.Rule.TheVariants.{Ipv4RecordTooShort, Ipv6RecordTooShort}
use Rattle.pcap_core.proofs.OnePadded.{padded_same, no_short_padded}
use Rattle.pcap_core.proofs.Padded.{chain_more}
use Rattle.pcap_core.proofs.Texts.{number_same}
use Rattle.pcap_core.proofs.Verdicts.{whole_no_fault}
use Rattle.pcap_core.proofs.Verdicts.{whole_same}
use Rattle.pcap_options.specs.Options.{CodeLengthText}
use Rattle.pcap_options.specs.Record.{NameRecord, End, Ipv4, Ipv6, Other, no_value, address, any_value, form_of, RecordValueSays, RecordText, RecordFault, short, cut, wrong, unpadded, RecordMayGrow, RecordValueMayGrow, other_of}
use Rattle.pcap_options.specs.declared.record.UnknownRecord.{UnknownRecord}
use Rattle.pcap_options.proofs.NameRecords.{same_padded}
use Rattle.pcap_options.proofs.OneList.{head_length}
use Rattle.pcap_options.proofs.OneRecord.{value_one}
use Rattle.pcap_tolerant_blocks.specs.declared.flaws.Flaw.{Flaw}
use Rattle.pcap_tolerant_blocks.specs.Flaws.{Said, Flawed, said_of}
use Rattle.pcap_tolerant_blocks.specs.NamesAsIs.{only, IsJudged, sound, broken, Delimited, NoExtent, no_head, no_bytes, TypedText, KeptAsIs, record_in, flaws_of, judged_record, RawText, RecordsGrow, RecordsText, with_end, without_end}

-- ---- by the error of strict reading

pub io_stands : (MayGrow : Type 0) (HasFault : Fault → Type 0) (error : PcapError) → ((rule : Rule) → Names rule error → ⊥) → ((e : _) → error ≡ Utf8Error e → ⊥) → ((e : _) → error ≡ OutOfMemory e → ⊥) → Refuses MayGrow (λ n. ⊥) HasFault error → HasFault Io
io_stands MayGrow HasFault (InvalidField message) named utf8 memory t = absurd (named t.0 t.1)
io_stands MayGrow HasFault (IoError e) named utf8 memory t = t
io_stands MayGrow HasFault (Utf8Error e) named utf8 memory t = absurd (utf8 e refl)
io_stands MayGrow HasFault (OutOfMemory e) named utf8 memory t = absurd (memory e refl)
io_stands MayGrow HasFault _ named utf8 memory t = absurd t

-- ---- the front of any bytes is at most one record

-- A record without a flaw, and a record of an unknown type with a flaw.
abbrev pub as_it_is : NameRecord → Flawed NameRecord
as_it_is r = record { value = r; flaws = [] }

abbrev pub as_bytes : ℕ → List ℕ → Fault → Flawed NameRecord
as_bytes type v f = record { value = Other type (length v) v; flaws = only f }

module _ (order : Order) where
  head_same : (t n u m : ℕ) (s a b : List ℕ) → CodeLengthText order t n s a → CodeLengthText order u m s b → (t ≡ u) × (n ≡ m) × (a ≡ b)
  head_same t n u m s a b h k =
      let one = number_same order 2 t u s h.after_code k.after_code h.code_is k.code_is in
      let second : Number order 2 n k.after_code a = subst (λ (l : List ℕ). Number order 2 n l a) one.1 h.length_is in
      let two = number_same order 2 n m k.after_code a b second k.length_is in
      (one.0, two.0, two.1)

  pub delimited_same : (t u : ℕ) (v w s a b : List ℕ) → Delimited order t v s a → Delimited order u w s b → (t ≡ u) × (v ≡ w) × (a ≡ b)
  delimited_same t u v w s a b h k =
      let head = head_same t (length v) u (length w) s h.after_head k.after_head h.head k.head in
      let padded : Padded v k.after_head a = subst (λ (l : List ℕ). Padded v l a) head.2 h.padded in
      let same = padded_same v w k.after_head a b head.1 padded k.padded in
      (head.0, same.0, same.1)

  pub no_extent_delimited : (type : ℕ) (v s rest : List ℕ) → NoExtent order s → Delimited order type v s rest → ⊥
  no_extent_delimited type v s rest (no_head lt) d = omega (arith, lt, head_length order type (length v) s d.after_head d.head)
  no_extent_delimited type v s rest (no_bytes t len after head lt) d =
      let same = head_same t len type (length v) s after d.after_head head d.head in
      let padded : Padded v after rest = subst (λ (l : List ℕ). Padded v l rest) (sym same.2) d.padded in
      no_short_padded v after rest len padded (sym same.1) lt

  value_same : (type : ℕ) (v : List ℕ) (x y : Verdict NameRecord) → RecordValueSays (form_of type) v x → RecordValueSays (form_of type) v y → x ≡ y
  value_same type v x y h k = let one = value_one (form_of type) v in one.only x h ∙ sym (one.only y k)

  pub judged_same : (type : ℕ) (v : List ℕ) (r q : Flawed NameRecord) → IsJudged type v r → IsJudged type v q → r ≡ q
  judged_same type v r q (sound a x) (sound b y) = ap as_it_is (whole_same a b [] [] (value_same type v (whole a []) (whole b []) x y)).0
  judged_same type v r q (sound a x) (broken g y) = absurd (whole_no_fault a [] g (value_same type v (whole a []) (faulty g) x y))
  judged_same type v r q (broken f x) (sound b y) = absurd (whole_no_fault b [] f (value_same type v (whole b []) (faulty f) y x))
  judged_same type v r q (broken f x) (broken g y) = let both = value_same type v (faulty f) (faulty g) x y in let same : f ≡ g = cc in ap (as_bytes type v) same

  pub typed_same : (t u : ℕ) (r q : Flawed NameRecord) (s a b : List ℕ) → TypedText order t r s a → TypedText order u q s b → (t ≡ u) × (r ≡ q) × (a ≡ b)
  typed_same t u r q s a b h k =
      let same = delimited_same t u h.v k.v s a b h.text k.text in
      let is : IsJudged t h.v q = subst (λ (v : List ℕ). IsJudged t v q) (sym same.1) (subst (λ (n : ℕ). IsJudged n k.v q) (sym same.0) k.is) in
      (same.0, judged_same t h.v r q h.is is, same.2)

  pub end_no_kept : (end r : Flawed NameRecord) (s a b : List ℕ) → TypedText order 0 end s a → KeptAsIs order r s b → ⊥
  end_no_kept end r s a b h k = k.no_end (sym (typed_same 0 k.type end r s a b h k.typed).0)

  -- ---- from strict reading

  form_end : (type : ℕ) (v : List ℕ) (a b c : Bool)
      → RecordValueSays (if a then no_value else if b then address 4 Ipv4RecordTooShort Ipv4 else if c then address 16 Ipv6RecordTooShort Ipv6 else any_value type) v (whole End []) → a ≡ true
  form_end type v true b c h = refl
  form_end type v false true c h = let apart = h.1 in absurd cc
  form_end type v false false true h = let apart = h.1 in absurd cc
  form_end type v false false false h = let apart = h.0 in absurd cc

  pub end_type : (type : ℕ) (v : List ℕ) → RecordValueSays (form_of type) v (whole End []) → type ≡ 0
  end_type type v h = eqb-true type 0 (form_end type v (type == 0) (type == 1) (type == 2) h)

  pub strict_typed : (r : NameRecord) (s rest : List ℕ) (h : RecordText order r s rest) → TypedText order h.type (as_it_is r) s rest
  strict_typed r s rest h = record { v = h.v; text = record { after_head = h.after; head = h.head; padded = h.padded }; is = sound r h.value_is }

  pub strict_end : (s rest : List ℕ) → RecordText order End s rest → TypedText order 0 (judged_record End None) s rest
  strict_end s rest h = subst (λ (n : ℕ). TypedText order n (as_it_is End) s rest) (end_type h.type h.v h.value_is) (strict_typed End s rest h)

  zero_is_end : (r : NameRecord) (type : ℕ) (v : List ℕ) → type ≡ 0 → RecordValueSays (form_of type) v (whole r []) → r ≡ End
  zero_is_end r type v zero h = let none : RecordValueSays (form_of 0) v (whole r []) = subst (λ (n : ℕ). RecordValueSays (form_of n) v (whole r [])) zero h in none.0

  pub strict_kept : (r : NameRecord) (s rest : List ℕ) → r ≢ End → RecordText order r s rest → KeptAsIs order (judged_record r None) s rest
  strict_kept r s rest apart h = record { type = h.type; no_end = λ zero. apart (zero_is_end r h.type h.v zero h.value_is); typed = strict_typed r s rest h }

  -- If a record has its extent, its fault is that of its value.
  pub value_fault : (type : ℕ) (v s rest : List ℕ) (fault : Fault) → Delimited order type v s rest → RecordFault order s fault → RecordValueSays (form_of type) v (faulty fault)
  value_fault type v s rest fault d (short lt) = absurd (no_extent_delimited type v s rest (no_head lt) d)
  value_fault type v s rest fault d (cut t len after head lt) = absurd (no_extent_delimited type v s rest (no_bytes t len after head (omega (arith, lt))) d)
  value_fault type v s rest fault d (wrong f t w after more head parts says) =
      let same = head_same t (length w) type (length v) s after d.after_head head d.head in
      let padded : Padded v after rest = subst (λ (l : List ℕ). Padded v l rest) (sym same.2) d.padded in
      let bytes = (padded_same w v after rest rest same.1 (same_padded w v after more rest parts same.1 padded) padded).0 in
      subst (λ (x : List ℕ). RecordValueSays (form_of type) x (faulty f)) bytes (subst (λ (n : ℕ). RecordValueSays (form_of n) w (faulty f)) same.0 says)
  value_fault type v s rest fault d (unpadded r t w after more head parts says lt) = absurd (no_extent_delimited type v s rest (no_bytes t (length w) after head lt) d)

  flawed_with : ℕ → ℕ → List ℕ → List Said → Flawed NameRecord
  flawed_with type len v flaws = record { value = Other type len v; flaws = flaws }

  typed_broken : (r : UnknownRecord) (flaw : Flaw) (fault : Fault) (s rest : List ℕ) → RawText order r s rest → RecordFault order s fault → said_of flaw ≡ record { code = None; fault = fault }
      → TypedText order r.type_ (judged_record (other_of r) (Some flaw)) s rest
  unfolding flawed_with
  typed_broken r flaw fault s rest raw stands said =
      let v = cow_bytes r.value in
      let says = value_fault r.type_ v s rest fault raw.text stands in
      let is : flawed_with r.type_ (length v) v (only fault) ≡ flawed_with r.type_ r.length v (said_of flaw ∷ []) = rw (raw.length_is, said) refl in
      record { v = v; text = raw.text; is = subst (IsJudged r.type_ v) is (broken fault says) }

  pub end_broken : (r : UnknownRecord) (flaw : Flaw) (fault : Fault) (s rest : List ℕ) → RawText order r s rest → RecordFault order s fault → said_of flaw ≡ record { code = None; fault = fault } → r.type_ ≡ 0
      → TypedText order 0 (judged_record (other_of r) (Some flaw)) s rest
  end_broken r flaw fault s rest raw stands said zero = subst (λ (n : ℕ). TypedText order n (judged_record (other_of r) (Some flaw)) s rest) zero (typed_broken r flaw fault s rest raw stands said)

  pub kept_broken : (r : UnknownRecord) (flaw : Flaw) (fault : Fault) (s rest : List ℕ) → RawText order r s rest → RecordFault order s fault → said_of flaw ≡ record { code = None; fault = fault } → r.type_ ≢ 0
      → KeptAsIs order (judged_record (other_of r) (Some flaw)) s rest
  kept_broken r flaw fault s rest raw stands said apart = record { type = r.type_; no_end = apart; typed = typed_broken r flaw fault s rest raw stands said }

  -- ---- records so far

  -- These records were read from `s`, and `left` remains to be read.
  pub record RecordsSoFar (records : List NameRecord) (flaws : List Said) (s left : List ℕ) : Type 0 where
    pub each : List (Flawed NameRecord)
    pub are : Chain (KeptAsIs order) each s left
    pub records_are : records ≡ map record_in each
    pub flaws_are : flaws ≡ flat_map flaws_of each

  pub record_more : (records : List NameRecord) (flaws : List Said) (s left after : List ℕ) (r : Flawed NameRecord) → RecordsSoFar records flaws s left → KeptAsIs order r left after
      → RecordsSoFar (records ++ r.value ∷ []) (flaws ++ r.flaws) s after
  record_more records flaws s left after r so_far is = record {
    each = so_far.each ++ r ∷ [];
    are = chain_more (KeptAsIs order) so_far.each s left after r so_far.are is;
    records_are = ap (λ (l : List NameRecord). l ++ r.value ∷ []) so_far.records_are ∙ sym (map-append record_in so_far.each (r ∷ []));
    flaws_are = ap (λ (l : List Said). l ++ r.flaws) so_far.flaws_are ∙ ap (λ (l : List Said). flat_map flaws_of so_far.each ++ l) (sym (append-nil r.flaws)) ∙ sym (flat_map-append flaws_of so_far.each (r ∷ []));
  }

  pub records_end : (records : List NameRecord) (flaws : List Said) (s left rest : List ℕ) (end : Flawed NameRecord) → RecordsSoFar records flaws s left → TypedText order 0 end left rest
      → RecordsText order s records (flaws ++ end.flaws) rest true
  records_end records flaws s left rest end so_far is = with_end so_far.each end left so_far.are is so_far.records_are (ap (λ (l : List Said). l ++ end.flaws) so_far.flaws_are)

  pub records_cut : (records : List NameRecord) (flaws : List Flaw) (flaw : Flaw) (s left : List ℕ) (fault : Fault) → RecordsSoFar records (map said_of flaws) s left → NoExtent order left → RecordFault order left fault
      → said_of flaw ≡ record { code = None; fault = fault } → RecordsText order s records (map said_of (flaws ++ flaw ∷ [])) left false
  records_cut records flaws flaw s left fault so_far none stands said =
      without_end so_far.each fault so_far.are none stands so_far.records_are
      (map-append said_of flaws (flaw ∷ []) ∙ ap (λ (x : Said). map said_of flaws ++ x ∷ []) said ∙ ap (λ (l : List Said). l ++ only fault) so_far.flaws_are)

  -- ---- the conditions under which a list grows

  grows_in : (each : List (Flawed NameRecord)) (s left : List ℕ) → Chain (KeptAsIs order) each s left → RecordsGrow order left → RecordsGrow order s
  grows_in [] s left are grows end rest typed none = grows end rest (subst (λ (l : List ℕ). TypedText order 0 end l rest) are typed) none
  grows_in (r ∷ each) s left are grows end rest typed none = end_no_kept end r s rest are.0 typed are.1

  pub grows_at : (records : List NameRecord) (flaws : List Said) (s left : List ℕ) → RecordsSoFar records flaws s left → RecordsGrow order left → RecordsGrow order s
  grows_at records flaws s left so_far grows = grows_in so_far.each s left so_far.are grows

  pub grows_by_name : (s : List ℕ) → RecordMayGrow order s → RecordsGrow order s
  grows_by_name s x end rest typed none =
      let same = head_same x.type (length x.v) 0 (length typed.v) s x.after typed.text.after_head x.head typed.text.head in
      subst (λ (n : ℕ). RecordValueMayGrow (form_of n) x.v) same.0 x.grows

  pub grows_by_record : (r : Flawed NameRecord) (s after : List ℕ) → KeptAsIs order r s after → RecordsGrow order s
  grows_by_record r s after kept end rest typed none = end_no_kept end r s rest after typed kept

  pub grows_by_end : (end : Flawed NameRecord) (s after : List ℕ) → TypedText order 0 end s after → end.flaws ≢ [] → RecordsGrow order s
  grows_by_end end s after flawed some other rest typed none = some (ap flaws_of (typed_same 0 0 end other s after rest flawed typed).1 ∙ none)

  pub grows_by_cut : (s : List ℕ) → NoExtent order s → RecordsGrow order s
  grows_by_cut s missing end rest typed none = no_extent_delimited 0 typed.v s rest missing typed.text
