-- The front of bytes that are cut at boundaries is the fronts of the parts.
use Rattle.std.proofs.Common.{◌≡◌, ◌<◌, ◌≤◌, ◌+◌, ◌-◌, ℕ, List, [], ◌∷◌, ◌++◌, length, take, drop, refl, sym, ap, subst, ◌∙◌, arith, length-append, append_assoc, append-nil}
use Rattle.std.proofs.lemmas.List.{nil_from_length}
use Rattle.pcap_items.specs.Format.{Format, Texts, state_after, Front, IsLawful}
use Rattle.pcap_items.proofs.Formats.{text_same, texts_own, front_goes_on, nothing_no_text, cons_same}
use Rattle.pcap_items.proofs.Requested.{texts_long}
use Rattle.pcap_core.proofs.Texts.{front_of, rest_of}
use Rattle.pcap_items.proofs.Copying.{state_all}
use Rattle.std.specs.List.{AllByRecursion}
use Rattle.pcap_parts.specs.declared.cut.Cut.{Cut}
use Rattle.pcap_parts.specs.Parts.{Bound, Rising, AreCuts, PartFronts, InParts, part_bytes, joined, CountsBefore}

module _ {S V : Type 0} (f : Format S V) (laws : IsLawful f) where
  -- If two rows of items begin the same bytes, the row that leaves no more bytes continues the other row.
  pub beyond : (q : S) (us bs : List V) (s mid rest : List ℕ) → Texts f q us s mid → Texts f q bs s rest → length rest ≤ length mid
      → (more : List V) × (bs ≡ us ++ more) × Texts f (state_after f q us) more mid rest
  beyond q [] bs s mid rest x y le = (bs, refl, subst (λ (t : List ℕ). Texts f q bs t rest) x y)
  beyond q (a ∷ us) [] s mid rest x y le = absurd (omega (arith, le, ap length y, texts_long f laws q (a ∷ us) s mid x))
  beyond q (a ∷ us) (b ∷ bs) s mid rest x y le =
      let one = text_same f laws q b a s y.0 x.0 y.1 x.1 in
      let there : Texts f (f.goes q a) bs y.0 rest = subst (λ (v : V). Texts f (f.goes q v) bs y.0 rest) one.0 y.2 in
      let here : Texts f (f.goes q a) bs x.0 rest = subst (λ (t : List ℕ). Texts f (f.goes q a) bs t rest) one.1 there in
      let more = beyond (f.goes q a) us bs x.0 mid rest x.2 here le in
      let e : b ∷ bs ≡ a ∷ us ++ more.0 = cons_same b a bs (us ++ more.0) one.0 more.1 in
      (more.0, e, more.2)

  -- Two rows of items between the same bytes are equal.
  pub texts_one : (q : S) (us vs : List V) (s rest : List ℕ) → Texts f q us s rest → Texts f q vs s rest → vs ≡ us
  texts_one q us vs s rest x y =
      let on = beyond q us vs s rest rest x y (omega arith) in
      let none : on.0 ≡ [] = nil_from_length on.0 (omega (arith, texts_long f laws (state_after f q us) on.0 rest rest on.2)) in
      on.1 ∙ ap (λ (l : List V). us ++ l) none ∙ append-nil us

  -- If the bytes are the texts of items and nothing more, these items are their front.
  pub texts_front : (q : S) (vs : List V) (s : List ℕ) → Texts f q vs s [] → Front f q vs s []
  texts_front q vs s texts = record { texts = texts; longest = λ v after x. nothing_no_text f laws (state_after f q vs) v after x }

  -- One more part before the others keeps the fronts.
  one_more : (p : S) (more : List V) (b bytes : List ℕ) (c d : Cut) (cs : List Cut) (parts : List (List V)) (rest : List ℕ) → take (d.offset - c.offset) (drop c.offset bytes) ≡ b → Texts f p more b []
      → PartFronts f (state_after f p more) parts (part_bytes bytes (d ∷ cs)) rest → PartFronts f p (more ∷ parts) (part_bytes bytes (c ∷ d ∷ cs)) rest
  one_more p more b bytes c d [] [] rest part texts fronts = absurd fronts
  one_more p more b bytes c d (e ∷ es) [] rest part texts fronts = absurd fronts
  one_more p more b bytes c d [] (ws ∷ parts) rest part texts fronts = (subst (λ (t : List ℕ). Front f p more t []) (sym part) (texts_front p more b texts), fronts)
  one_more p more b bytes c d (e ∷ es) (ws ∷ parts) rest part texts fronts = (subst (λ (t : List ℕ). Front f p more t []) (sym part) (texts_front p more b texts), fronts)

  module _ (q : S) (h s : List ℕ) where
    -- The bytes behind a cut are the bytes behind its boundary.
    pub behind : (c : Cut) (b : Bound f q s (length (h ++ s)) c) → drop c.offset (h ++ s) ≡ b.rest
    behind c b =
        let own = texts_own f laws q b.items s b.rest b.texts in
        let split : h ++ s ≡ (h ++ own.0) ++ b.rest = ap (λ (t : List ℕ). h ++ t) own.1 ∙ sym (append_assoc h own.0 b.rest) in
        rest_of (h ++ s) (h ++ own.0) b.rest c.offset split b.place

    -- From: the items behind a boundary are those of the parts from its cut on.
    record From (c : Cut) (b : Bound f q s (length (h ++ s)) c) (cs : List Cut) (vs : List V) (rest : List ℕ) : Type 0 where
      parts : List (List V)
      all : vs ≡ b.items ++ joined parts
      fronts : PartFronts f (state_after f q b.items) parts (part_bytes (h ++ s) (c ∷ cs)) rest
      before : CountsBefore c.before parts (c ∷ cs)

    from_last : (c : Cut) (b : Bound f q s (length (h ++ s)) c) (vs : List V) (rest : List ℕ) → Front f q vs s rest → From c b [] vs rest
    from_last c b vs rest front =
        let on = front_goes_on f laws q b.items vs s b.rest rest b.texts front in
        record {
          parts = on.0 ∷ [];
          all = on.1 ∙ ap (λ (l : List V). b.items ++ l) (sym (append-nil on.0));
          fronts = subst (λ (t : List ℕ). Front f (state_after f q b.items) on.0 t rest) (sym (behind c b)) on.2;
          before = (refl, tt);
        }

    counted : (c d : Cut) (b : Bound f q s (length (h ++ s)) c) (e : Bound f q s (length (h ++ s)) d) (more : List V) → e.items ≡ b.items ++ more → d.before ≡ c.before + length more
    counted c d b e more items = omega (arith, b.count, e.count, ap length {x = e.items} {y = b.items ++ more} items, length-append b.items more)

    from_next : (c d : Cut) (b : Bound f q s (length (h ++ s)) c) (e : Bound f q s (length (h ++ s)) d) (cs : List Cut) (vs : List V) (rest : List ℕ) → c.offset < d.offset
        → From d e cs vs rest → From c b (d ∷ cs) vs rest
    from_next c d b e cs vs rest less deeper =
        let p = state_after f q b.items in
        let on = beyond q b.items e.items s b.rest e.rest b.texts e.texts (omega (arith, less, b.place, e.place)) in
        let own = texts_own f laws p on.0 b.rest e.rest on.2 in
        let room : d.offset - c.offset + length e.rest ≡ length b.rest = omega (arith, less, b.place, e.place) in
        let part : take (d.offset - c.offset) (drop c.offset (h ++ s)) ≡ own.0 = rw (behind c b) (front_of b.rest own.0 e.rest (d.offset - c.offset) own.1 room) in
        let state : state_after f q e.items ≡ state_after f p on.0 = ap (λ (l : List V). state_after f q l) on.1 ∙ state_all f q b.items on.0 in
        let here : PartFronts f (state_after f p on.0) deeper.parts (part_bytes (h ++ s) (d ∷ cs)) rest = subst (λ (z : S). PartFronts f z deeper.parts (part_bytes (h ++ s) (d ∷ cs)) rest) state deeper.fronts in
        record {
          parts = on.0 ∷ deeper.parts;
          all = deeper.all ∙ ap (λ (l : List V). l ++ joined deeper.parts) on.1 ∙ append_assoc b.items on.0 (joined deeper.parts);
          fronts = one_more p on.0 own.0 (h ++ s) c d cs deeper.parts rest part own.2 here;
          before = (refl, subst (λ (n : ℕ). CountsBefore n deeper.parts (d ∷ cs)) (counted c d b e on.0 on.1) deeper.before);
        }

    from_all : (c : Cut) (b : Bound f q s (length (h ++ s)) c) (cs : List Cut) → AllByRecursion (Bound f q s (length (h ++ s))) cs → Rising (c ∷ cs) → (vs : List V) (rest : List ℕ) → Front f q vs s rest → From c b cs vs rest
    from_all c b [] bounds rising vs rest front = from_last c b vs rest front
    from_all c b (d ∷ cs) bounds rising vs rest front = from_next c d b bounds.0 cs vs rest rising.0.0 (from_all d bounds.0 cs bounds.1 rising.1 vs rest front)

  pub in_parts : (q : S) (h s rest : List ℕ) (vs : List V) (cuts : List Cut) → Front f q vs s rest → AreCuts f q s (length h) (length (h ++ s)) cuts → InParts f q vs rest (h ++ s) cuts
  in_parts q h s rest vs [] front are = absurd are.starts
  in_parts q h s rest vs (c ∷ cs) front are =
      let b = are.bounds.0 in
      let from = from_all q h s c b cs are.bounds.1 are.rising vs rest front in
      let none : b.items ≡ [] = nil_from_length b.items (b.count ∙ are.starts.1) in
      record {
        parts = from.parts;
        all = from.all ∙ ap (λ (l : List V). l ++ joined from.parts) none;
        fronts = subst (λ (l : List V). PartFronts f (state_after f q l) from.parts (part_bytes (h ++ s) (c ∷ cs)) rest) none from.fronts;
        before = subst (λ (n : ℕ). CountsBefore n from.parts (c ∷ cs)) are.starts.1 from.before;
      }
