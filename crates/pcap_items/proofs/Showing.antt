-- Bytes that are shown on request, after those of earlier items.
use Rattle.std.proofs.Common.{◌≡◌, ◌<◌, ◌≤◌, ◌+◌, ◌-◌, ◌*◌, ℕ, List, [], ◌∷◌, ◌++◌, length, take, drop, map, refl, sym, ap, subst, ◌∙◌, arith, append_assoc, append-nil, length-append, length-drop, inl, inr}
use Rattle.std.proofs.lemmas.List.{drop-take, drop-drop, length-map, map-append, take-append-drop}
use Rattle.std.specs.Prelude.{min}
use Rattle.std.proofs.Math.Nat.{min-le_left, min-le_right, min-eq_left, min-eq_right}
use Rattle.std.proofs.lemmas.Bool.{cases_lt}
use Rattle.pcap_items.specs.declared.run.items.Ended.{Ended}
use Rattle.pcap_core.specs.Faults.{Fault}
use Rattle.pcap_core.specs.Answer.{Verdict, whole, lacks, faulty}
use Rattle.pcap_items.specs.Format.{Format, state_after, IsLawful}
use Rattle.pcap_items.specs.Requested.{ItemRequests, AsksItem}
use Rattle.pcap_items.specs.Exact.{ExactItems}
use Rattle.pcap_items.specs.Items.{EndsWith, LeadsBy, LeadsTo}
use Rattle.pcap_items.specs.Run.{IsRest}
use Rattle.pcap_items.specs.declared.rest.Rest.{Rest}
use Rattle.pcap_items.specs.declared.rest.Rest.TheVariants.{Clean, Needs, Refused}
use Rattle.pcap_items.proofs.Formats.{lacks_no_text, fault_no_text, nothing_no_text, only, requests_left, state_push}
use Rattle.pcap_core.proofs.Refusals.{shown_fault}
use Rattle.pcap_items.proofs.Requested.{Asking, asking_none, asking_few, asking_more, asking_smaller, asking_item, asking_fault, asking_short, asking_told, asking_ended, items_push, items_few, item_texts, texts_long, run_few}

-- fewer bytes than requested are all that were left
short_is_all : (n k left : ℕ) → k ≡ min n left → k < n → (k ≡ left) × (left < n)
short_is_all n k left is few =
    elim (cases_lt n left) [
      | inl lt ↦
          let le : n ≤ left = omega (arith, lt) in
          absurd (omega (arith, is, few, min-eq_left le))
      | inr le ↦
          let same : k ≡ left = is ∙ min-eq_right le in
          (same, omega (arith, same, few))
    ]

-- the bytes up to `shown` were shown; the requests for those after `start` follow the earlier ones and were counted
pub record Showing {S V : Type 0} (f : Format S V) (laws : IsLawful f) (q : S) (bytes : List ℕ) (start shown : ℕ) (earlier now : List ℕ) (first count : ℕ) : Type 0 where
  pub m : ℕ
  pub ns : List ℕ
  pub sum : start + m ≡ shown
  pub asking : Asking f laws q (drop start bytes) m ns
  pub grown : now ≡ earlier ++ ns
  pub counted : count ≡ first + length ns

pub showing_none : {S V : Type 0} (f : Format S V) (laws : IsLawful f) (q : S) (bytes : List ℕ) (start : ℕ) (earlier : List ℕ) (first : ℕ) → Showing f laws q bytes start start earlier earlier first first
showing_none f laws q bytes start earlier first = record {
  m = 0;
  ns = [];
  sum = omega arith;
  asking = asking_none f laws q (drop start bytes);
  grown = sym (append-nil earlier);
  counted = omega arith;
}

module _ {S V : Type 0} {f : Format S V} {laws : IsLawful f} {q : S} {bytes : List ℕ} {start shown : ℕ} {earlier now : List ℕ} {first count : ℕ} (a : Showing f laws q bytes start shown earlier now first count) where
  pub showing_few : count ≤ first + 2
  showing_few = omega (arith, a.counted, asking_few f laws q (drop start bytes) a.m a.ns a.asking)

  -- the bytes that were shown are a beginning of what is there
  held_is : drop start (take shown bytes) ≡ take a.m (drop start bytes)
  held_is = ap (λ (k : ℕ). drop start (take k bytes)) (sym a.sum) ∙ drop-take start a.m bytes

  said : (v : Verdict V) → f.says q (drop start (take shown bytes)) v → f.says q (take a.m (drop start bytes)) v
  said v x = subst (λ (t : List ℕ). f.says q t v) held_is x

  pub showing_split : (more : List ℕ) × (drop start bytes ≡ drop start (take shown bytes) ++ more)
  showing_split = (drop a.m (drop start bytes), sym (take-append-drop a.m (drop start bytes)) ∙ ap (λ (t : List ℕ). t ++ drop a.m (drop start bytes)) (sym held_is))

  left_is : length bytes - shown ≡ length (drop start bytes) - a.m
  left_is = omega (arith, a.sum, length-drop start bytes)

  -- a request that is met
  pub showing_more : (n k : ℕ) → f.says q (drop start (take shown bytes)) (lacks n) → k ≡ min n (length bytes - shown) → n ≤ k → Showing f laws q bytes start (shown + k) earlier (now ++ n ∷ []) first (count + 1)
  showing_more n k ask is met =
      let same : k ≡ n = omega (arith, is, met, min-le_left n (length bytes - shown)) in
      let fits : a.m + n ≤ length (drop start bytes) = omega (arith, is, met, left_is, a.asking.within, min-le_right n (length bytes - shown)) in
      record {
        m = a.m + n;
        ns = a.ns ++ n ∷ [];
        sum = omega (arith, a.sum, same);
        asking = asking_more f laws q (drop start bytes) a.m a.ns n a.asking (said (lacks n) ask) fits;
        grown = ap (λ (l : List ℕ). l ++ n ∷ []) a.grown ∙ append_assoc earlier a.ns (n ∷ []);
        counted = omega (arith, a.counted, length-append a.ns (n ∷ []));
      }

  -- a request that is met leaves fewer requests
  pub showing_smaller : (n k : ℕ) → f.says q (drop start (take shown bytes)) (lacks n) → k ≡ min n (length bytes - shown) → n ≤ k
      → requests_left f laws q (drop start (take (shown + k) bytes)) < requests_left f laws q (drop start (take shown bytes))
  showing_smaller n k ask is met =
      let same : k ≡ n = omega (arith, is, met, min-le_left n (length bytes - shown)) in
      let fits : a.m + n ≤ length (drop start bytes) = omega (arith, is, met, left_is, a.asking.within, min-le_right n (length bytes - shown)) in
      let sum : shown + k ≡ start + (a.m + n) = omega (arith, a.sum, same) in
      let there : drop start (take (shown + k) bytes) ≡ take (a.m + n) (drop start bytes) = ap (λ (i : ℕ). drop start (take i bytes)) sum ∙ drop-take start (a.m + n) bytes in
      rw (there, held_is) (asking_smaller f laws q (drop start bytes) a.m n (said (lacks n) ask) fits)

  asked_told : ((n : ℕ) → f.says q (drop start (take shown bytes)) (lacks n) → ⊥) → AsksItem f q (drop start bytes) earlier now first count
  asked_told none = record {
    requests = a.ns;
    asked = asking_told f laws q (drop start bytes) a.m a.ns a.asking (λ n x. none n (subst (λ (t : List ℕ). f.says q t (lacks n)) (sym held_is) x));
    grown = a.grown;
    counted = a.counted;
  }

  -- an item
  pub showing_item : (v : V) (rest : List ℕ) → f.says q (drop start (take shown bytes)) (whole v rest) → AsksItem f q (drop start bytes) earlier now first count
  showing_item v rest text = asked_told (λ n x. lacks_no_text f laws q n (drop start (take shown bytes)) x v rest text)

  pub showing_text : (v : V) (rest : List ℕ) → f.says q (drop start (take shown bytes)) (whole v rest) → f.says q (drop start bytes) (whole v (drop shown bytes))
  showing_text v rest text =
      let all = asking_item f laws q (drop start bytes) a.m a.ns a.asking v rest (said (whole v rest) text) in
      let left : drop a.m (drop start bytes) ≡ drop shown bytes = drop-drop a.m start bytes ∙ ap (λ (k : ℕ). drop k bytes) a.sum in
      subst (λ (t : List ℕ). f.says q (drop start bytes) (whole v t)) left all

  fault_lacks : (n : ℕ) (fault : Fault) → f.says q (drop start (take shown bytes)) (faulty fault) → f.says q (drop start (take shown bytes)) (lacks n) → ⊥
  fault_lacks n fault x y =
      let no : lacks n ≡ faulty fault = only f laws q (drop start (take shown bytes)) (lacks n) (faulty fault) y x in
      absurd cc

  -- a fault
  pub showing_refused : (fault : Fault) → f.says q (drop start (take shown bytes)) (faulty fault) → AsksItem f q (drop start bytes) earlier now first count
  showing_refused fault stands = asked_told (λ n x. fault_lacks n fault stands x)

  pub showing_fault : (fault : Fault) → f.says q (drop start (take shown bytes)) (faulty fault) → f.says q (drop start bytes) (faulty fault)
  showing_fault fault stands = asking_fault f laws q (drop start bytes) a.m fault (said (faulty fault) stands)

  -- a request that is not met
  pub showing_ended : (n k : ℕ) → f.says q (drop start (take shown bytes)) (lacks n) → k ≡ min n (length bytes - shown) → k < n → AsksItem f q (drop start bytes) earlier (now ++ n ∷ []) first (count + 1)
  showing_ended n k ask is few = record {
    requests = a.ns ++ n ∷ [];
    asked = asking_ended f laws q (drop start bytes) a.m a.ns n a.asking (said (lacks n) ask) (omega (arith, left_is, (short_is_all n k (length bytes - shown) is few).1));
    grown = ap (λ (l : List ℕ). l ++ n ∷ []) a.grown ∙ append_assoc earlier a.ns (n ∷ []);
    counted = omega (arith, a.counted, length-append a.ns (n ∷ []));
  }

  pub showing_lack : (n k : ℕ) → f.says q (drop start (take shown bytes)) (lacks n) → k ≡ min n (length bytes - shown) → k < n → f.says q (drop start bytes) (lacks (n - k))
  showing_lack n k ask is few =
      let short = short_is_all n k (length bytes - shown) is few in
      let all : k ≡ length (drop start bytes) - a.m = omega (arith, short.0, left_is) in
      let there = asking_short f laws q (drop start bytes) a.m n (said (lacks n) ask) (omega (arith, left_is, short.1)) in
      subst (λ (i : ℕ). f.says q (drop start bytes) (lacks (n - i))) (sym all) there

-- ---- whole runs

-- the requests for items with these kept parts follow the earlier ones and were counted, and the items lead from one state to the next
pub record Exacting {S V W : Type 0} (f : Format S V) (part : V → W) (q next : S) (ws : List W) (s left earlier now : List ℕ) (first count : ℕ) : Type 0 where
  pub values : List V
  pub ns : List ℕ
  pub items : ItemRequests f q values s left ns
  pub parts : map part values ≡ ws
  pub state_is : state_after f q values ≡ next
  pub grown : now ≡ earlier ++ ns
  pub counted : count ≡ first + length ns

pub exacting_none : {S V W : Type 0} (f : Format S V) (part : V → W) (q : S) (s earlier : List ℕ) (first : ℕ) → Exacting f part q q [] s s earlier earlier first first
exacting_none f part q s earlier first =
    record { values = []; ns = []; items = (refl, refl); parts = refl; state_is = refl; grown = sym (append-nil earlier); counted = omega arith }

module _ {S V W : Type 0} {f : Format S V} {part : V → W} {q p : S} {ws : List W} {s mid earlier now : List ℕ} {first count : ℕ} (a : Exacting f part q p ws s mid earlier now first count) where
  asks_here : {next : List ℕ} {more : ℕ} → AsksItem f p mid now next count more → AsksItem f (state_after f q a.values) mid now next count more
  asks_here {next = next} {more = more} asked = subst (λ (r : S). AsksItem f r mid now next count more) (sym a.state_is) asked

  pub exacting_texts : LeadsTo f part q p ws s mid
  exacting_texts = record { values = a.values; texts = item_texts f q a.values s mid a.ns a.items; parts = a.parts; state_is = a.state_is }

  pub exacting_item : {next : S} {w : W} {rest further : List ℕ} {more : ℕ} → AsksItem f p mid now further count more → LeadsBy f part p next w mid rest
      → Exacting f part q next (ws ++ w ∷ []) s rest earlier further first more
  exacting_item {next = next} {w = w} {rest = rest} asked by =
      let here = asks_here asked in
      let text : f.says (state_after f q a.values) mid (whole by.value rest) = subst (λ (r : S). f.says r mid (whole by.value rest)) (sym a.state_is) by.text in
      record {
        values = a.values ++ by.value ∷ [];
        ns = a.ns ++ here.requests;
        items = items_push f q a.values by.value s mid rest a.ns here.requests a.items text here.asked;
        parts = map-append part a.values (by.value ∷ []) ∙ ap (λ (ps : List W). ps ++ part by.value ∷ []) a.parts ∙ ap (λ (x : W). ws ++ x ∷ []) (sym by.part_is);
        state_is = state_push f q a.values by.value ∙ ap (λ (r : S). f.goes r by.value) a.state_is ∙ sym by.goes;
        grown = here.grown ∙ ap (λ (l : List ℕ). l ++ here.requests) a.grown ∙ append_assoc earlier a.ns here.requests;
        counted = omega (arith, here.counted, a.counted, length-append a.ns here.requests);
      }

  -- the rest after them is refused or truncated
  pub exacting_rest : {E : Type 0} {ShowsIt : E → Fault → Type 0} {ended : Ended E} {start used : ℕ} {bytes : List ℕ} {further : List ℕ} {more : ℕ} → s ≡ drop start bytes → mid ≡ drop used bytes
      → used ≤ length bytes → 0 < length mid → AsksItem f p mid now further count more → EndsWith ShowsIt (f.says p) mid ended → ExactItems f part ShowsIt q p ws bytes start used ended earlier further first more
  exacting_rest {ShowsIt = ShowsIt} {ended = ended} from to within some asked ends =
      let here = asks_here asked in
      record {
        values = a.values;
        requests = a.ns ++ here.requests;
        asked = record {
          for_items = a.ns;
          at_rest = here.requests;
          items = rw (← from, ← to) a.items;
          last = inr (rw (← to) some, rw (← to) here.asked);
          all = refl;
        };
        parts = a.parts;
        state_is = a.state_is;
        within = within;
        ends = subst (λ (t : List ℕ). EndsWith ShowsIt (f.says p) t ended) to ends;
        grown = here.grown ∙ ap (λ (l : List ℕ). l ++ here.requests) a.grown ∙ append_assoc earlier a.ns here.requests;
        counted = omega (arith, here.counted, a.counted, length-append a.ns here.requests);
      }

  -- the number of requests
  pub exacting_few : count ≤ first + 2 * length ws
  exacting_few = omega (arith, a.counted, items_few f q a.values s mid a.ns a.items, length-map a.values part, ap length a.parts)

  pub exacting_long : IsLawful f → length ws + length mid ≤ length s
  exacting_long laws = omega (arith, texts_long f laws q a.values s mid (item_texts f q a.values s mid a.ns a.items), length-map a.values part, ap length a.parts)

-- no item begins a rest
pub rest_no_text : {S V : Type 0} (f : Format S V) → IsLawful f → (q : S) (left : List ℕ) (rest : Rest) → IsRest (f.says q) left rest → (v : V) (after : List ℕ) → f.says q left (whole v after) → ⊥
rest_no_text f laws q left Clean is v after text = nothing_no_text f laws q v after (subst (λ (t : List ℕ). f.says q t (whole v after)) is text)
rest_no_text f laws q left (Needs n) is v after text = lacks_no_text f laws q n left is.0 v after text
rest_no_text f laws q left (Refused e) is v after text =
    let stands : (fault : Fault) × f.says q left (faulty fault) = shown_fault _ e is in
    fault_no_text f laws q stands.0 left stands.1 v after text

module _ {E S V W : Type 0} {f : Format S V} {part : V → W} {ShowsIt : E → Fault → Type 0} {q p : S} {ws : List W} {bytes : List ℕ} {start used : ℕ} {ended : Ended E} {earlier now : List ℕ}
    {first count : ℕ} (x : ExactItems f part ShowsIt q p ws bytes start used ended earlier now first count) where
  -- the items that were shown
  pub exact_leads : LeadsTo f part q p ws (drop start bytes) (drop used bytes)
  exact_leads = record { values = x.values; texts = item_texts f q x.values (drop start bytes) (drop used bytes) x.asked.for_items x.asked.items; parts = x.parts; state_is = x.state_is }

  -- the number of requests of a whole run
  pub exact_few : count ≤ first + 2 * length ws + 2
  exact_few = omega (arith, x.counted, run_few f q x.values (drop start bytes) (drop used bytes) x.requests x.asked, length-map x.values part, ap length x.parts)
