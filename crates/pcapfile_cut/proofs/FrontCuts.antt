-- Lemmas on a cut of known bytes in terms of their front.
use Rattle.std.proofs.Common.{◌≡◌, ◌+◌, ℕ, List, [], ◌∷◌, ◌++◌, length, Option, Some, None, refl, sym, ap, ◌∙◌, subst, append_assoc, append-nil, inl, inr, lit<}
use Rattle.std.specs.Prelude.{All}
use Rattle.std.specs.Option.{IsSomeAnd}
use Rattle.std.specs.Io.KnownBytes.{Consumes}
use Rattle.std.proofs.lemmas.Grind.{flat_map-append}
use Rattle.std.proofs.lemmas.List.{map-append}
use Rattle.std.proofs.lemmas.List.Elements.{All-cons, All-head, All-nil, All-tail}
use Rattle.pcap_core.specs.declared.errors.PcapError.{PcapError}
use Rattle.pcap_core.specs.Answer.{whole}
use Rattle.pcap_items.specs.Format.{Front, IsLawful, Texts}
use Rattle.pcap_items.proofs.Formats.{front_goes_on, has_front, nothing_more, nothing_no_text}
use Rattle.pcap_items.proofs.Taking.{ends_front}
use Rattle.pcap_classic.specs.declared.pcap.header.PcapHeader.{PcapHeader}
use Rattle.pcap_classic.specs.PacketText.{Captured, packet_limit}
use Rattle.pcap_classic.proofs.CaptureFormat.{under_lawful}
use Rattle.pcapfile_cut.specs.declared.cutting.Outcome.{Outcome}
use Rattle.pcapfile_cut.specs.declared.wanted.Wanted.{Wanted}
use Rattle.pcapfile_cut.specs.Choice.{Stored, chosen, is_new, text_of}
use Rattle.pcapfile_cut.specs.Cuts.{CutsBehind, Ends, IsStored, PacketIsSaid, Passes, packets_under}
use Rattle.pcapfile_cut.specs.Fronts.{CutsFront, StopsFront, packets_of}
use Rattle.pcapfile_cut.proofs.Chosen.{chosen_push, one_if, recent_of}

lawful : (header : PcapHeader) → IsLawful (packets_under header)
lawful header = under_lawful packet_limit header

-- Packets with their bytes are texts of the format.
pub stored_texts : (header : PcapHeader) (xs : List Stored) (rest : List ℕ) → All (IsStored header) xs → Texts (packets_under header) tt (packets_of xs) (text_of xs ++ rest) rest
stored_texts header [] rest each = refl
stored_texts header (x ∷ xs) rest each =
    let f = packets_under header in
    let is : IsStored header x = All-head (IsStored header) x xs each in
    let behind = text_of xs ++ rest in
    let text : f.says tt (x.text ++ behind) (whole x.packet behind) = ((lawful header).stable tt).text x.text behind [] x.packet is in
    (behind, subst (λ (t : List ℕ). f.says tt t (whole x.packet behind)) (sym (append_assoc x.text (text_of xs) rest)) text, stored_texts header xs rest (All-tail (IsStored header) x xs each))

-- Texts of the format are packets with their bytes.
pub store : (header : PcapHeader) (vs : List Captured) (s rest : List ℕ) → Texts (packets_under header) tt vs s rest
    → (xs : List Stored) × (packets_of xs ≡ vs) × All (IsStored header) xs × (s ≡ text_of xs ++ rest)
store header [] s rest texts = ([], refl, All-nil (IsStored header), texts)
store header (v ∷ vs) s rest texts =
    let one = (lawful header).own tt s texts.0 v texts.1 in
    let more = store header vs texts.0 rest texts.2 in
    let x : Stored = record { packet = v; text = one.0 } in (
      x ∷ more.0,
      ap (λ (ps : List Captured). v ∷ ps) more.1,
      All-cons (IsStored header) x more.0 one.2 more.2,
      one.1 ∙ ap (λ (t : List ℕ). one.0 ++ t) more.3 ∙ sym (append_assoc one.0 (text_of more.0) rest),
    )

-- The wanted ones of the first packets are the first wanted packets.
pub chosen_append : (wanted : Wanted) (xs ys : List Stored) → (others : List Stored) × (chosen wanted (xs ++ ys) ≡ chosen wanted xs ++ others)
chosen_append wanted xs [] = ([], ap (chosen wanted) (append-nil xs) ∙ sym (append-nil (chosen wanted xs)))
chosen_append wanted xs (y ∷ ys) =
    let one = one_if (is_new wanted (recent_of wanted xs) (length xs + 1) y.packet) y in
    let more = chosen_append wanted (xs ++ y ∷ []) ys in (
      one ++ more.0,
      ap (chosen wanted) (sym (append_assoc xs (y ∷ []) ys)) ∙ more.1 ∙ ap (λ (l : List Stored). l ++ more.0) (chosen_push wanted xs y) ∙ append_assoc (chosen wanted xs) one more.0,
    )

no_packets : (xs : List Stored) → packets_of xs ≡ [] → xs ≡ []
no_packets [] none = refl
no_packets (x ∷ xs) none = absurd cc

some_more : {P Q : PcapError → Type 0} (fault : Option PcapError) → ((e : PcapError) → P e → Q e) → IsSomeAnd fault P → IsSomeAnd fault Q
some_more None step is = absurd is
some_more (Some e) step is = step e is

-- The packet that was read is the next packet of the front.
next_of : (header : PcapHeader) (packet : Captured) (t left rest : List ℕ) (now : Option (List ℕ)) (more : List Captured) → Front (packets_under header) tt more left rest
    → PacketIsSaid header t (whole packet []) → Consumes (Some left) now t → (others : List Captured) × (more ≡ packet ∷ others)
next_of header packet t left rest None more front is took = absurd took
next_of header packet t left rest (Some after) more front is took =
    let f = packets_under header in
    let text : f.says tt left (whole packet after) = subst (λ (l : List ℕ). f.says tt l (whole packet after)) (sym took) (((lawful header).stable tt).text t after [] packet is) in
    let on = front_goes_on f (lawful header) tt (packet ∷ []) more left after rest (after, text, refl) front in
    (on.0, on.1)

cut_known : (header : PcapHeader) (wanted : Wanted) (s : List ℕ) (now out out_now : Option (List ℕ)) (outcome : Outcome) (xs : List Stored) (left mid : Option (List ℕ))
    → Passes header wanted xs (Some s) left out mid outcome → Ends header wanted xs left now mid out_now outcome → CutsFront header wanted s now out out_now outcome
cut_known header wanted s now out out_now outcome xs None mid passes ends = absurd passes.took
cut_known header wanted s now out out_now outcome xs (Some after) mid passes ends =
    let f = packets_under header in
    let laws = lawful header in
    let texts : Texts f tt (packets_of xs) s after = subst (λ (t : List ℕ). Texts f tt (packets_of xs) t after) (sym passes.took) (stored_texts header xs after passes.each) in
    let front = has_front f laws tt s in
    let rest = front.1 in
    let on = front_goes_on f laws tt (packets_of xs) front.0 s after rest texts front.2 in
    let st = store header on.0 after rest on.2.texts in
    let ms = st.0 in
    let both : front.0 ≡ packets_of (xs ++ ms) = on.1 ∙ ap (λ (ps : List Captured). packets_of xs ++ ps) (sym st.1) ∙ sym (map-append (λ (x : Stored). x.packet) xs ms) in
    let text_both : s ≡ text_of (xs ++ ms) ++ rest =
    passes.took ∙ ap (λ (t : List ℕ). text_of xs ++ t) st.3 ∙ sym (append_assoc (text_of xs) (text_of ms) rest) ∙ ap (λ (t : List ℕ). t ++ rest) (sym (flat_map-append (λ (x : Stored). x.text) xs ms)) in
    let all_of : after ≡ [] → (ms ≡ []) × (rest ≡ []) = λ end.
    let none = nothing_more f laws tt on.0 after rest on.2 (λ v r text. nothing_no_text f laws tt v r (subst (λ (t : List ℕ). f.says tt t (whole v r)) end text)) in
    (no_packets ms (st.1 ∙ none.0), none.1 ∙ end) in
    record {
      packets = xs;
      more = ms;
      left = after;
      rest = rest;
      mid = mid;
      front = subst (λ (ps : List Captured). Front f tt ps s rest) {y = packets_of (xs ++ ms)} both front.2;
      bytes = text_both;
      place = passes.took;
      went = passes.went;
      count = passes.count;
      duplicates = passes.duplicates;
      unmoved = passes.unmoved;
      first_ones = chosen_append wanted xs ms;
      ends = elim ends [
        | inl all ↦ inl (record {
          fine = all.fine;
          taken = all.taken;
          went = all.went;
          why = elim all.why [ inl end ↦ inl (all_of end) | inr enough ↦ inr enough ];
        })
        | inr fault ↦ elim fault.1 [
          | inl tear ↦
              let next = next_of header tear.torn.packet tear.torn.text after rest now on.0 on.2 tear.is_stored tear.took in
              inr (inl (record { ends = tear; others = next.0; next = st.1 ∙ next.1 }))
          | inr refuses ↦ inr (inr (record {
            refused = subst (λ (ps : List Captured). IsSomeAnd outcome.fault (StopsFront header ps rest outcome.read_failed)) (sym st.1)
                (some_more outcome.fault (λ e cause. (ends_front f laws tt (Some e) after rest on.0 now outcome.read_failed 0 1 on.2 (lit< tt, cause, refuses.part)).1) refuses.refused);
            part = refuses.part;
            went = refuses.went;
          }))
        ]
      ];
    }

pub cut_front : (header : PcapHeader) (wanted : Wanted) (s : List ℕ) (now out out_now : Option (List ℕ)) (outcome : Outcome) → CutsBehind header wanted (Some s) now out out_now outcome
    → CutsFront header wanted s now out out_now outcome
cut_front header wanted s now out out_now outcome cut = cut_known header wanted s now out out_now outcome cut.packets cut.left cut.mid cut.passes cut.ends
