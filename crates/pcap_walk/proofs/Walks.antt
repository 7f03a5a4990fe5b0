-- Consecutive walks, over any lawful format and any sink.
use Rattle.std.proofs.Common.{◌≡◌, ◌≤◌, ◌+◌, ◌-◌, ℕ, List, [], ◌∷◌, ◌++◌, length, take, drop, Bool, true, false, Option, Some, None, Ok, Err, ◌⊎◌, inl, inr, refl, sym, ap, ◌∙◌, subst, arith, length-append, append_assoc, append-nil}
use lib.Seq.{take-append_seam}
use Rattle.std.proofs.lemmas.List.{take-append-drop}
use Rattle.std.proofs.lemmas.Bool.{true≢false}
use Rattle.std.specs.Io.KnownBytes.{Consumes, Keeps}
use Rattle.std.proofs.KnownBytes.{Consumes-nil, Consumes-trans, Keeps-refl, Keeps-trans}
use Rattle.pcap_core.specs.declared.errors.PcapError.{PcapError}
use Rattle.pcap_core.specs.Answer.{whole}
use Rattle.pcap_items.specs.Format.{Format, Texts, state_after, IsLawful}
use Rattle.pcap_items.specs.Takes.{Stops}
use Rattle.pcap_items.proofs.Copying.{state_all, consumes_apart}
use Rattle.pcap_items.proofs.Formats.{texts_more, texts_all}
use Rattle.pcap_walk.specs.declared.walking.Ended.{Ended}
use Rattle.pcap_walk.specs.declared.walking.Ended.TheVariants.{AtEnd, AtMost, Refused, Stopped}
use Rattle.pcap_walk.specs.Walks.{Does, Folds, Walks, Meets, MeetsStop, MeetsShown, Ends, EndsWalk, TurnGives, fault_of, IsStop, TakesAndKeeps}

module _ {V K E : Type 0} (does : Does V K E) where
  -- Buffered output may be written after the items.
  pub folds_kept : (n : ℕ) (vs : List V) (bytes : List ℕ) (old new : K) (a b c : Option (List ℕ)) → Folds does n vs bytes old a new b → Keeps b c → Folds does n vs bytes old a new c
  folds_kept n [] bytes old new a b c so_far kept = (so_far.0, so_far.1, Keeps-trans a b c so_far.2 kept)
  folds_kept n (v ∷ vs) bytes old new a b c so_far kept =
      (so_far.0, so_far.1, so_far.2, so_far.3, so_far.4, so_far.5, so_far.6, so_far.7, folds_kept (n + 1) vs so_far.1 so_far.2 new so_far.4 b c so_far.8 kept)

  -- Buffered output may be written before the items.
  pub folds_ready : (n : ℕ) (vs : List V) (bytes : List ℕ) (old new : K) (a b c : Option (List ℕ)) → Keeps a b → Folds does n vs bytes old b new c → Folds does n vs bytes old a new c
  folds_ready n [] bytes old new a b c kept more = (more.0, more.1, Keeps-trans a b c kept more.2)
  folds_ready n (v ∷ vs) bytes old new a b c kept more = (more.0, more.1, more.2, more.3, more.4, more.5, Keeps-trans a b more.3 kept more.6, more.7, more.8)

  -- One item is folded into what is kept.
  pub folds_one : (n : ℕ) (v : V) (text : List ℕ) (old new : K) (a b : Option (List ℕ)) → does (n + 1) v text old a new b (Ok tt) → Folds does n (v ∷ []) text old a new b
  folds_one n v text old new a b step = (text, [], new, a, b, sym (append-nil text), Keeps-refl a, step, (refl, refl, Keeps-refl b))

  -- Items after items are folded into what is kept.
  pub folds_all : (n m : ℕ) (vs ws : List V) (bytes more : List ℕ) (old mid new : K) (a b c : Option (List ℕ)) → m ≡ n + length vs → Folds does n vs bytes old a mid b → Folds does m ws more mid b new c
      → Folds does n (vs ++ ws) (bytes ++ more) old a new c
  folds_all n m [] ws bytes more old mid new a b c count so_far next =
      let here : Folds does n ws more mid b new c = subst (λ (k : ℕ). Folds does k ws more mid b new c) (omega (arith, count)) next in
      let from : Folds does n ws more old b new c = subst (λ (k : K). Folds does n ws more k b new c) so_far.1 here in
      let all : Folds does n ws more old a new c = folds_ready n ws more old new a b c so_far.2 from in
      subst (λ (l : List ℕ). Folds does n ws l old a new c) (sym (ap (λ (l : List ℕ). l ++ more) so_far.0)) all
  folds_all n m (v ∷ vs) ws bytes more old mid new a b c count so_far next =
      let deeper = folds_all (n + 1) m vs ws so_far.1 more so_far.2 mid new so_far.4 b c (omega (arith, count)) so_far.8 next in
      (so_far.0, so_far.1 ++ more, so_far.2, so_far.3, so_far.4, ap (λ (l : List ℕ). l ++ more) so_far.5 ∙ append_assoc so_far.0 so_far.1 more, so_far.6, so_far.7, deeper)

-- The length of the rest determines the front of the bytes before it.
pub shown_front : (shown front rest : List ℕ) → shown ≡ front ++ rest → take (length shown - length rest) shown ≡ front
shown_front shown front rest split =
    let count : length shown - length rest ≡ length front = omega (arith, ap length split, length-append front rest) in
    ap (λ (k : ℕ). take k shown) count ∙ ap (take (length front)) split ∙ take-append_seam front rest

module _ {S V K E : Type 0} (f : Format S V) (does : Does V K E) where
  pub walks_none : (q : S) (a : Option (List ℕ)) (n : ℕ) (old : K) (p r : Option (List ℕ)) → Keeps p r → Walks f does q q a a n n old old p r
  walks_none q a n old p r kept = record { items = []; count = omega arith; leads = refl; took = record { bytes = []; texts = refl; took = Consumes-nil a }; kept = (refl, refl, kept) }

  -- One item that was taken is a walk.
  pub walks_one : (q next : S) (item : V) (text : List ℕ) (a b : Option (List ℕ)) (n : ℕ) (old new : K) (p r : Option (List ℕ)) → f.says q text (whole item []) → f.goes q item ≡ next → Consumes a b text
      → does (n + 1) item text old p new r (Ok tt) → Walks f does q next a b n (n + 1) old new p r
  walks_one q next item text a b n old new p r says leads took step = record {
    items = item ∷ [];
    count = refl;
    leads = leads;
    took = record { bytes = text; texts = ([], says, refl); took = took };
    kept = folds_one does n item text old new p r step;
  }

  -- The items that the walk met in a buffer were taken.
  pub walks_met : (q : S) (bytes : List ℕ) (a b : Option (List ℕ)) (n m : ℕ) (old new : K) (p r : Option (List ℕ)) → Consumes a b bytes → Meets f does q bytes n m old new p r → Walks f does q q a b n m old new p r
  walks_met q bytes a b n m old new p r took met = record {
    items = met.items;
    count = met.count;
    leads = met.leave;
    took = record { bytes = bytes; texts = met.texts; took = took };
    kept = met.kept;
  }

  -- Buffered output may be written before a walk.
  pub walks_ready : (q here : S) (a b : Option (List ℕ)) (n m : ℕ) (old new : K) (p r t : Option (List ℕ)) → Keeps p r → Walks f does q here a b n m old new r t → Walks f does q here a b n m old new p t
  walks_ready q here a b n m old new p r t kept walks = record {
    items = walks.items;
    count = walks.count;
    leads = walks.leads;
    took = walks.took;
    kept = folds_ready does n walks.items walks.took.bytes old new p r t kept walks.kept;
  }

  -- MeetsTo q shown rest ..: of the shown bytes, items that leave the state unchanged were met up to this rest.
  pub record MeetsTo (q : S) (shown rest : List ℕ) (n m : ℕ) (old new : K) (out out_now : Option (List ℕ)) : Type 0 where
    pub front : List ℕ
    pub split : shown ≡ front ++ rest
    pub met : Meets f does q front n m old new out out_now

  pub meets_none : (q : S) (shown : List ℕ) (n : ℕ) (old : K) (p : Option (List ℕ)) → MeetsTo q shown shown n n old old p p
  meets_none q shown n old p = record { front = []; split = refl; met = record { items = []; count = omega arith; texts = refl; leave = refl; kept = (refl, refl, Keeps-refl p) } }

  pub meets_used : (q : S) (shown rest : List ℕ) (n m : ℕ) (old new : K) (p r : Option (List ℕ)) → MeetsTo q shown rest n m old new p r → Meets f does q (take (length shown - length rest) shown) n m old new p r
  meets_used q shown rest n m old new p r so_far = subst (λ (l : List ℕ). Meets f does q l n m old new p r) (sym (shown_front shown so_far.front rest so_far.split)) so_far.met

  module _ (IsUnready : E → Type 0) (wants : ℕ → K → Bool) where
    -- A walk may end where it began.
    pub ends_here : (q : S) (a now : Option (List ℕ)) (failed : Bool) (most n : ℕ) (old new : K) (p r t : Option (List ℕ)) (ended : Ended E) → Keeps p r
        → Ends f does IsUnready wants q a now failed most n old new r t ended → EndsWalk f does IsUnready wants q a now failed most n n old new p t ended
    ends_here q a now failed most n old new p r t ended kept ends = record { here = q; left = a; kept = old; mid = r; so_far = walks_none q a n old p r kept; ends = ends }

    -- Buffered output may be written before a walk that ends.
    pub ends_ready : (q : S) (a now : Option (List ℕ)) (failed : Bool) (most n m : ℕ) (old new : K) (p r t : Option (List ℕ)) (ended : Ended E) → Keeps p r
        → EndsWalk f does IsUnready wants q a now failed most n m old new r t ended → EndsWalk f does IsUnready wants q a now failed most n m old new p t ended
    ends_ready q a now failed most n m old new p r t ended kept ends =
        record { here = ends.here; left = ends.left; kept = ends.kept; mid = ends.mid; so_far = walks_ready q ends.here a ends.left n m old ends.kept p r ends.mid kept ends.so_far; ends = ends.ends }

    -- If the sink stopped at an item in a buffer, the walk ended there.
    pub stops_met : (q : S) (bytes : List ℕ) (a now : Option (List ℕ)) (failed : Bool) (most n m : ℕ) (old new : K) (p r : Option (List ℕ)) (stop : E) → failed ≡ false → Consumes a now bytes
        → MeetsShown f does q bytes most n m old new p r (Some stop) → EndsWalk f does IsUnready wants q a now failed most n m old new p r (Stopped stop)
    stops_met q bytes a now failed most n m old new p r stop unfailed took met =
        let stops = met.0 in
        let apart = consumes_apart a now stops.front stops.text (subst (λ (l : List ℕ). Consumes a now l) stops.split took) in
        record {
          here = q;
          left = apart.0;
          kept = stops.kept;
          mid = stops.mid;
          so_far = walks_met q stops.front a apart.0 n m old stops.kept p stops.mid apart.1 stops.so_far;
          ends = (met.2, unfailed, inl (record { item = stops.item; text = stops.text; is_text = stops.is_text; took = apart.2; stops = stops.stops }));
        }

  module _ (laws : IsLawful f) where
    pub walks_all : (q p next : S) (a b c : Option (List ℕ)) (n m k : ℕ) (old mid new : K) (s r t : Option (List ℕ)) → Walks f does q p a b n m old mid s r → Walks f does p next b c m k mid new r t
        → Walks f does q next a c n k old new s t
    walks_all q p next a b c n m k old mid new s r t so_far more =
        let there = subst (λ (x : S). Texts f x more.items more.took.bytes []) (sym so_far.leads) more.took.texts in
        let bytes = so_far.took.bytes ++ more.took.bytes in
        record {
          items = so_far.items ++ more.items;
          count = omega (arith, more.count, so_far.count, length-append so_far.items more.items);
          leads = state_all f q so_far.items more.items ∙ ap (λ (x : S). state_after f x more.items) so_far.leads ∙ more.leads;
          took = record {
            bytes = bytes;
            texts = texts_all f q so_far.items more.items bytes more.took.bytes [] (texts_more f laws q so_far.items so_far.took.bytes [] more.took.bytes so_far.took.texts) there;
            took = Consumes-trans a b c so_far.took.bytes more.took.bytes so_far.took.took more.took.took;
          };
          kept = folds_all does n m so_far.items more.items so_far.took.bytes more.took.bytes old mid new s r t so_far.count so_far.kept more.kept;
        }

    -- One more item of a buffer was met.
    pub meets_more : (q : S) (shown rest : List ℕ) (size n m : ℕ) (item : V) (old mid new : K) (p r t : Option (List ℕ)) → MeetsTo q shown rest n m old mid p r → size ≤ length rest
        → f.says q (take size rest) (whole item []) → f.goes q item ≡ q → does (m + 1) item (take size rest) mid r new t (Ok tt) → MeetsTo q shown (drop size rest) n (m + 1) old new p t
    meets_more q shown rest size n m item old mid new p r t so_far within says stays step =
        let text = take size rest in
        let met = so_far.met in
        record {
          front = so_far.front ++ text;
          split = so_far.split ∙ ap (λ (l : List ℕ). so_far.front ++ l) (sym (take-append-drop size rest)) ∙ sym (append_assoc so_far.front text (drop size rest));
          met = record {
            items = met.items ++ item ∷ [];
            count = omega (arith, met.count, length-append met.items (item ∷ []));
            texts = texts_all f q met.items (item ∷ []) (so_far.front ++ text) text [] (texts_more f laws q met.items so_far.front [] text met.texts)
                ([], subst (λ (x : S). f.says x text (whole item [])) (sym met.leave) says, refl);
            leave = state_all f q met.items (item ∷ []) ∙ ap (λ (x : S). f.goes x item) met.leave ∙ stays;
            kept = folds_all does n m met.items (item ∷ []) so_far.front text old mid new p r t met.count met.kept (folds_one does m item text mid new r t step);
          };
        }

    -- The sink stops at the next item of the bytes in a buffer.
    pub meets_stop : (q : S) (shown rest : List ℕ) (size n m : ℕ) (item : V) (old mid new : K) (p r t : Option (List ℕ)) (stop : E) → MeetsTo q shown rest n m old mid p r → size ≤ length rest
        → f.says q (take size rest) (whole item []) → does (m + 1) item (take size rest) mid r new t (Err stop) → MeetsStop f does q (take (length shown - length (drop size rest)) shown) n m old new p t stop
    meets_stop q shown rest size n m item old mid new p r t stop so_far within says stops =
        let text = take size rest in
        let split : shown ≡ (so_far.front ++ text) ++ drop size rest = so_far.split ∙ ap (λ (l : List ℕ). so_far.front ++ l) (sym (take-append-drop size rest)) ∙ sym (append_assoc so_far.front text (drop size rest)) in
        record {
          front = so_far.front;
          text = text;
          split = shown_front shown (so_far.front ++ text) (drop size rest) split;
          kept = mid;
          mid = r;
          so_far = so_far.met;
          item = item;
          is_text = says;
          stops = stops;
        }

    module _ (IsUnready : E → Type 0) (wants : ℕ → K → Bool) where
      -- After items, the end of a walk is the end of the walk over all.
      pub ends_behind : (q p : S) (a b now : Option (List ℕ)) (failed : Bool) (most n m k : ℕ) (old mid new : K) (s r t : Option (List ℕ)) (ended : Ended E) → Walks f does q p a b n m old mid s r
          → EndsWalk f does IsUnready wants p b now failed most m k mid new r t ended → EndsWalk f does IsUnready wants q a now failed most n k old new s t ended
      ends_behind q p a b now failed most n m k old mid new s r t ended so_far ends = record {
        here = ends.here;
        left = ends.left;
        kept = ends.kept;
        mid = ends.mid;
        so_far = walks_all q p ends.here a b ends.left n m k old mid ends.kept s r ends.mid so_far ends.so_far;
        ends = ends.ends;
      }

      -- After items, a turn of a walk is a turn of the walk over all.
      pub turn_behind : (q p here : S) (a b now : Option (List ℕ)) (failed : Bool) (most n m k : ℕ) (old mid new : K) (s r t : Option (List ℕ)) (result : Option (Ended E)) → n ≤ m → Walks f does q p a b n m old mid s r
          → TurnGives f does IsUnready wants p here b now failed most m k mid new r t result → TurnGives f does IsUnready wants q here a now failed most n k old new s t result
      turn_behind q p here a b now failed most n m k old mid new s r t None more so_far turn =
          (walks_all q p here a b now n m k old mid new s r t so_far turn.0, turn.1, omega (arith, more, turn.2), turn.3)
      turn_behind q p here a b now failed most n m k old mid new s r t (Some ended) more so_far turn = ends_behind q p a b now failed most n m k old mid new s r t ended so_far turn

keeps : {S V K E : Type 0} (f : Format S V) (does : Does V K E) (q : S) (before now : Option (List ℕ)) (failed : Bool) (most m : ℕ) (old new : K) (out out_now : Option (List ℕ)) (fault : Option PcapError)
    → (here : S) (left : Option (List ℕ)) (kept : K) (mid : Option (List ℕ)) → Walks f does q here before left 0 m old kept out mid → m ≤ most → Stops (f.says here) left now failed m most fault → new ≡ kept → Keeps mid out_now
    → TakesAndKeeps f does q before now failed most m old new out out_now fault
keeps f does q before now failed most m old new out out_now fault here left kept mid so_far within stops same still =
    let count : m ≡ length so_far.items = omega (arith, so_far.count) in
    record {
      items = so_far.items;
      count = count;
      run = record {
        left = left;
        took = so_far.took;
        within = omega (arith, count, within);
        stops = subst (λ (x : _). Stops (f.says x) left now failed (length so_far.items) most fault) (sym so_far.leads) (subst (λ (k : ℕ). Stops (f.says here) left now failed k most fault) count stops);
      };
      kept = subst (λ (k : _). Folds does 0 so_far.items so_far.took.bytes old out k out_now) (sym same) (folds_kept does 0 so_far.items so_far.took.bytes old kept out mid out_now so_far.kept still);
    }

-- If no item was met, nothing changed.
pub met_nothing : {S V K E : Type 0} (f : Format S V) (does : Does V K E) (q : S) (bytes : List ℕ) (n m : ℕ) (old new : K) (p r : Option (List ℕ)) → Meets f does q bytes n m old new p r → m ≤ n → new ≡ old
met_nothing f does q bytes n m old new p r met few = nothing met.items (omega (arith, met.count, few)) met.kept
  where
    nothing : (vs : List _) → length vs ≡ 0 → Folds does n vs bytes old p new r → new ≡ old
    nothing [] none folds = folds.1
    nothing (v ∷ vs) none folds = absurd (omega (arith, none))

-- A walk in which the sink did not stop has taken and kept items.
pub walk_keeps : {S V K E : Type 0} (f : Format S V) (does : Does V K E) (IsUnready : E → Type 0) (wants : ℕ → K → Bool) → ((k : ℕ) (s : K) → wants k s ≡ true) → (q : S) (before now : Option (List ℕ)) (failed : Bool) (most m : ℕ) (old new : K) (out out_now : Option (List ℕ)) (ended : Ended E)
    → (IsStop ended → ⊥) → EndsWalk f does IsUnready wants q before now failed most 0 m old new out out_now ended → TakesAndKeeps f does q before now failed most m old new out out_now (fault_of ended)
walk_keeps f does IsUnready wants always q before now failed most m old new out out_now AtEnd goes walk =
    keeps f does q before now failed most m old new out out_now None walk.here walk.left walk.kept walk.mid walk.so_far (omega (arith, walk.ends.0)) (walk.ends.1, walk.ends.3, inl walk.ends.2) walk.ends.4 walk.ends.5
walk_keeps f does IsUnready wants always q before now failed most m old new out out_now AtMost goes walk =
    keeps f does q before now failed most m old new out out_now None walk.here walk.left walk.kept walk.mid walk.so_far (omega (arith, at_most walk.ends.0)) (walk.ends.1, walk.ends.2, inr (at_most walk.ends.0)) walk.ends.3 walk.ends.4
  where
    at_most : (m ≡ most) ⊎ (wants (m + 1) walk.kept ≡ false) → m ≡ most
    at_most (inl same) = same
    at_most (inr none) = absurd (true≢false (sym (always (m + 1) walk.kept) ∙ none))
walk_keeps f does IsUnready wants always q before now failed most m old new out out_now (Refused e) goes walk =
    keeps f does q before now failed most m old new out out_now (Some e) walk.here walk.left walk.kept walk.mid walk.so_far (omega (arith, walk.ends.0)) (walk.ends.0, walk.ends.1, walk.ends.2) walk.ends.3 walk.ends.4
walk_keeps f does IsUnready wants always q before now failed most m old new out out_now (Stopped stop) goes walk = absurd (goes tt)
