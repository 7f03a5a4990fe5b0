-- Records have one order of rank, and a capture has one opening and one list of records.
use Rattle.std.proofs.Common.{◌≡◌, ◌≤◌, ◌==◌, ℕ, suc, List, [], ◌∷◌, ◌++◌, length, Bool, true, false, Some, inl, inr, refl, sym, ap, ◌∙◌, subst, arith, append-nil, length-append, eq-eqb, ne_eqb}
use Rattle.std.specs.Prelude.{All, filter}
use Rattle.std.specs.List.Sorted.{IsNonDecreasingBy}
use Rattle.std.proofs.lemmas.Bool.{cases_eq}
use Rattle.std.proofs.lemmas.List.{append_cancel_right}
use Rattle.std.proofs.lemmas.List.Elements.{All-filter, All-head, All-same, All-tail}
use Rattle.pcap_core.specs.Answer.{whole}
use Rattle.pcap_items.proofs.Formats.{beginning, cons_same, nil_of_length, nothing_no_text, text_same}
use Rattle.pcap_classic.specs.declared.pcap.header.PcapHeader.{PcapHeader}
use Rattle.pcap_classic.specs.HeaderText.{HeaderText}
use Rattle.pcap_classic.specs.Packets.{reader_format}
use Rattle.pcap_classic.specs.PacketText.{Captured, packet_limit}
use Rattle.pcap_classic.proofs.One.{header_same}
use Rattle.pcap_classic.proofs.Packets.{reader_lawful}
use Rattle.pcap_classic.proofs.Texts.{header_length}
use Rattle.pcapfile_cut.specs.declared.opening.Opening.{Opening}
use Rattle.pcapfile_cut.specs.Openings.{bytes_of, header_of}
use Rattle.pcapfile_sort.specs.Order.{IsInOrder, at_rank}
use Rattle.pcapfile_sort.specs.Packets.{BeginsWith, IsTimed, PacketIsSaid, packet_captures, time_in}
use Rattle.pcapfile_sort.specs.Ranked.{Ranked, texts_of}
use Rattle.pcapfile_sort.specs.Sorting.{WritesUpTo}
use Rattle.pcapfile_sort.proofs.PacketRecords.{ranked_same}
use Rattle.pcapfile_sort.proofs.SortedCaptures.{known_all}

-- The ranks of these records do not fall.
abbrev Rises : List Ranked → Type 0
Rises records = IsNonDecreasingBy (λ (ranked : Ranked). ranked.rank) records

least : (x : Ranked) (xs : List Ranked) → Rises (x ∷ xs) → All (λ (y : Ranked). x.rank ≤ y.rank) (x ∷ xs)
least x xs up = λ k d less. up 0 k d (omega arith) less

rises_tail : (x : Ranked) (xs : List Ranked) → Rises (x ∷ xs) → Rises xs
rises_tail x xs up = λ i j d le less. up (suc i) (suc j) d (omega (arith, le)) (omega (arith, less))

passes : (p : Ranked → Bool) (x : Ranked) (xs : List Ranked) → p x ≡ true → filter p (x ∷ xs) ≡ x ∷ filter p xs
passes p x xs is = rw is refl

skips : (p : Ranked → Bool) (x : Ranked) (xs : List Ranked) → p x ≡ false → filter p (x ∷ xs) ≡ filter p xs
skips p x xs is = rw is refl

here : (x : Ranked) (xs : List Ranked) (rank : ℕ) → x.rank ≡ rank → at_rank rank (x ∷ xs) ≡ x ∷ at_rank rank xs
here x xs rank is = passes (λ (ranked : Ranked). ranked.rank == rank) x xs (eq-eqb x.rank rank is)

elsewhere : (x : Ranked) (xs : List Ranked) (rank : ℕ) → (x.rank ≡ rank → ⊥) → at_rank rank (x ∷ xs) ≡ at_rank rank xs
elsewhere x xs rank other = skips (λ (ranked : Ranked). ranked.rank == rank) x xs (ne_eqb x.rank rank other)

-- The first of records in order is not later than a record among them.
below : (x y : Ranked) (xs ys : List Ranked) → Rises (y ∷ ys) → at_rank x.rank (x ∷ xs) ≡ at_rank x.rank (y ∷ ys) → y.rank ≤ x.rank
below x y xs ys up same =
    let P : Ranked → Type 0 = λ z. y.rank ≤ z.rank in
    let all : All P (at_rank x.rank (y ∷ ys)) = All-filter (λ (ranked : Ranked). ranked.rank == x.rank) P (y ∷ ys) (least y ys up) in
    All-head P x (at_rank x.rank xs) (All-same P (x ∷ at_rank x.rank xs) (at_rank x.rank (y ∷ ys)) (sym (here x xs x.rank refl) ∙ same) all)

rises_one : (a b : List Ranked) → Rises a → Rises b → ((rank : ℕ) → at_rank rank a ≡ at_rank rank b) → a ≡ b
rises_one [] [] up_a up_b same = refl
rises_one [] (y ∷ ys) up_a up_b same = let e : [] ≡ y ∷ at_rank y.rank ys = same y.rank ∙ here y ys y.rank refl in absurd cc
rises_one (x ∷ xs) [] up_a up_b same = let e : x ∷ at_rank x.rank xs ≡ [] = sym (here x xs x.rank refl) ∙ same x.rank in absurd cc
rises_one (x ∷ xs) (y ∷ ys) up_a up_b same =
    let times : x.rank ≡ y.rank = omega (arith, below x y xs ys up_b (same x.rank), below y x ys xs up_a (sym (same y.rank))) in
    let both : x ∷ at_rank x.rank xs ≡ y ∷ at_rank x.rank ys = sym (here x xs x.rank refl) ∙ same x.rank ∙ here y ys x.rank (sym times) in
    let first : x ≡ y = cc in
    let others : at_rank x.rank xs ≡ at_rank x.rank ys = cc in
    let rest : (rank : ℕ) → at_rank rank xs ≡ at_rank rank ys = λ rank. elim (cases_eq x.rank rank) [
      | inl is ↦ subst (λ (k : ℕ). at_rank k xs ≡ at_rank k ys) is others
      | inr other ↦ sym (elsewhere x xs rank other) ∙ same rank ∙ elsewhere y ys rank (λ is. other (times ∙ is))
    ] in
    cons_same x y xs ys first (rises_one xs ys (rises_tail x xs up_a) (rises_tail y ys up_b) rest)

-- Records have one order.
pub one_order : (records a b : List Ranked) → IsInOrder records a → IsInOrder records b → a ≡ b
one_order records a b first second = rises_one a b first.ordered second.ordered (λ rank. first.stable rank ∙ sym (second.stable rank))

-- ---- one list of records

module _ (header : PcapHeader) where
  front_said : (ranked : Ranked) (others : List ℕ) → (is : IsTimed header ranked) → PacketIsSaid header (ranked.text ++ others) (whole is.packet others)
  front_said ranked others is = ((reader_lawful packet_limit header).stable tt).text ranked.text others [] is.packet is.said

  some_bytes : (ranked : Ranked) (others : List Ranked) → IsTimed header ranked → [] ≡ ranked.text ++ texts_of others → ⊥
  some_bytes ranked others is none =
      let empty : ranked.text ≡ [] = nil_of_length ranked.text (omega (arith, ap length none, length-append ranked.text (texts_of others))) in
      nothing_no_text (reader_format packet_limit header) (reader_lawful packet_limit header) tt is.packet [] (subst (λ (t : List ℕ). PacketIsSaid header t (whole is.packet [])) empty is.said)

  records_one : (a b : List Ranked) → All (IsTimed header) a → All (IsTimed header) b → texts_of a ≡ texts_of b → a ≡ b
  records_one [] [] each_a each_b same = refl
  records_one [] (y ∷ ys) each_a each_b same = absurd (some_bytes y ys (All-head (IsTimed header) y ys each_b) same)
  records_one (x ∷ xs) [] each_a each_b same = absurd (some_bytes x xs (All-head (IsTimed header) x xs each_a) (sym same))
  records_one (x ∷ xs) (y ∷ ys) each_a each_b same =
      let first = All-head (IsTimed header) x xs each_a in
      let second = All-head (IsTimed header) y ys each_b in
      let there : PacketIsSaid header (y.text ++ texts_of ys) (whole first.packet (texts_of xs)) = subst (λ (t : List ℕ). PacketIsSaid header t (whole first.packet (texts_of xs))) same (front_said x (texts_of xs) first) in
      let one = text_same (reader_format packet_limit header) (reader_lawful packet_limit header) tt first.packet second.packet (y.text ++ texts_of ys) (texts_of xs) (texts_of ys) there (front_said y (texts_of ys) second) in
      let texts : x.text ≡ y.text = append_cancel_right x.text y.text (texts_of ys) (ap (λ (t : List ℕ). x.text ++ t) (sym one.1) ∙ same) in
      let times : x.rank ≡ y.rank = first.time_is ∙ ap (λ (p : Captured). time_in p.header) one.0 ∙ sym second.time_is in
      cons_same x y xs ys (ranked_same x y times texts) (records_one xs ys (All-tail (IsTimed header) x xs each_a) (All-tail (IsTimed header) y ys each_b) one.1)

-- The same bytes have one opening and one list of records.
begins_one : (o p : Opening) (a b : List Ranked) → HeaderText (header_of o) (bytes_of o) [] → HeaderText (header_of p) (bytes_of p) [] → All (IsTimed (header_of o)) a → All (IsTimed (header_of p)) b
    → bytes_of o ++ texts_of a ≡ bytes_of p ++ texts_of b → (bytes_of o ≡ bytes_of p) × (a ≡ b)
begins_one o p a b text_o text_p each_a each_b same =
    let long_o : length (bytes_of o) ≡ 24 = omega (arith, header_length (header_of o) (bytes_of o) [] text_o) in
    let long_p : length (bytes_of p) ≡ 24 = omega (arith, header_length (header_of p) (bytes_of p) [] text_p) in
    let split = beginning (bytes_of o) (texts_of a) (bytes_of p) (texts_of b) same (omega (arith, long_o, long_p)) in
    let none : split.0 ≡ [] = nil_of_length split.0 (omega (arith, long_o, long_p, ap length split.1, length-append (bytes_of o) split.0)) in
    let openings : bytes_of o ≡ bytes_of p = sym (split.1 ∙ ap (λ (l : List ℕ). bytes_of o ++ l) none ∙ append-nil (bytes_of o)) in
    let texts : texts_of a ≡ texts_of b = split.2 ∙ ap (λ (l : List ℕ). l ++ texts_of b) none in
    let headers = header_same (header_of o) (header_of p) (bytes_of p) [] [] (subst (λ (s : List ℕ). HeaderText (header_of o) s []) openings text_o) text_p in
    let all_b : All (IsTimed (header_of o)) b = subst (λ (h : PcapHeader). All (IsTimed h) b) (sym headers.0) each_b in
    (openings, records_one (header_of o) a b each_a all_b texts)

-- A sort that wrote all of known bytes wrote their opening and their records in order.
pub sorted_whole : (opening : Opening) (records sorted : List Ranked) (bytes out : List ℕ) → BeginsWith opening records (Some bytes) (Some []) → IsInOrder records sorted → WritesUpTo packet_captures (Some bytes) (Some bytes) (Some []) (Some out) [] []
    → out ≡ bytes_of opening ++ texts_of sorted
sorted_whole opening records sorted bytes out begins order w =
    let mine : bytes ≡ bytes_of opening ++ texts_of records = known_all (Some bytes) (Some []) (bytes_of opening ++ texts_of records) bytes begins.took refl refl in
    let its : bytes ≡ bytes_of w.opening ++ texts_of w.records = known_all (Some bytes) w.end (bytes_of w.opening ++ texts_of w.records) bytes w.begins.took w.at_end refl in
    let one = begins_one w.opening opening w.records records w.begins.header begins.header w.begins.each begins.each (sym its ∙ mine) in
    let here_order : IsInOrder records w.front = subst (λ (l : List Ranked). IsInOrder records l) (append-nil w.front) (subst (λ (l : List Ranked). IsInOrder l (w.front ++ [])) one.1 w.in_order) in
    let same : w.copies ≡ sorted = w.copied.same (bytes, refl, refl) ∙ one_order records w.front sorted here_order order in
    let gone : bytes_of w.opening ++ texts_of w.copies ≡ w.went.gone = w.went.split ∙ append-nil w.went.gone in
    w.went.out ∙ sym gone ∙ ap (λ (l : List ℕ). l ++ texts_of w.copies) one.0 ∙ ap (λ (l : List Ranked). bytes_of opening ++ texts_of l) same
