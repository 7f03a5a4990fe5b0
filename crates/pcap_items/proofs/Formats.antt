-- Consequences of the laws of a format.
use Rattle.std.proofs.Common.{◌≡◌, ℕ, zero, suc, ◌+◌, ◌-◌, ◌<◌, ◌≤◌, List, [], ◌∷◌, ◌++◌, length, refl, sym, ap, subst, ◌∙◌, arith, append_assoc, append-nil, length-append, inl, inr}
use Rattle.std.proofs.Common.{take, drop}
use Rattle.std.proofs.lemmas.List.{length-take, take-append-drop}
use Rattle.std.specs.Prelude.{nat_lt, if◌then◌else◌}
use Rattle.std.proofs.lemmas.Bool.{cases_lt}
use Rattle.std.proofs.lemmas.Bool.Decides.{nat_tests}
use Rattle.pcap_core.specs.Faults.{Fault}
use Rattle.pcap_core.specs.Answer.{Verdict, whole, lacks, faulty}
use Rattle.pcap_core.specs.Laws.{ExactlyOne}
use Rattle.pcap_core.proofs.Verdicts.{whole_same}
use Rattle.pcap_items.specs.Format.{Format, Texts, state_after, Front, Asks, IsLawful, Extends}

pub nil_of_length : (l : List ℕ) → length l ≡ 0 → l ≡ []
nil_of_length [] e = refl
nil_of_length (x ∷ xs) e = absurd (omega (arith, e))

pub cons_same : {A : Type 0} (x y : A) (xs ys : List A) → x ≡ y → xs ≡ ys → x ∷ xs ≡ y ∷ ys
cons_same x y xs ys a b = rw (a, b) refl

-- the shorter of two beginnings of a list is a beginning of the longer
pub beginning : (a x b y : List ℕ) → a ++ x ≡ b ++ y → length a ≤ length b → (w : List ℕ) × (b ≡ a ++ w) × (x ≡ w ++ y)
beginning [] x b y e le = (b, refl, e)
beginning (c ∷ a) x [] y e le = absurd (omega (arith, le))
beginning (c ∷ a) x (d ∷ b) y e le =
    let tails : a ++ x ≡ b ++ y = cc in
    let first : c ≡ d = cc in
    let less : length a ≤ length b = omega (arith, le) in
    let r = beginning a x b y tails less in
    (r.0, cons_same d c b (a ++ r.0) (sym first) r.1, r.2)

pub triple_same : {A B C : Type 0} (x y : A × B × C) → (x.0 ≡ y.0) × (x.1 ≡ y.1) × (x.2 ≡ y.2) → x ≡ y
triple_same {A} {B} {C} x y e = let t : Path (A × B × C) (x.0, x.1, x.2) (y.0, y.1, y.2) = rw (e.0, e.1, e.2) refl in t

pair_same : {A B : Type 0} (a b : A) (x y : B) → (a ≡ b) × (x ≡ y) → Path (A × B) (a, x) (b, y)
pair_same a b x y e = rw (e.0, e.1) refl

module _ {S V : Type 0} (f : Format S V) (laws : IsLawful f) where
  pub only : (q : S) (s : List ℕ) (v w : Verdict V) → f.says q s v → f.says q s w → v ≡ w
  only q s v w a b = let o = laws.one q s in o.only v a ∙ sym (o.only w b)

  -- an item and what follows it are unique
  pub text_same : (q : S) (v w : V) (s a b : List ℕ) → f.says q s (whole v a) → f.says q s (whole w b) → (v ≡ w) × (a ≡ b)
  text_same q v w s a b x y = whole_same v w a b (only q s (whole v a) (whole w b) x y)

  pub lacks_no_text : (q : S) (n : ℕ) (s : List ℕ) → f.says q s (lacks n) → (v : V) (rest : List ℕ) → f.says q s (whole v rest) → ⊥
  lacks_no_text q n s x v rest y = let e : lacks n ≡ whole v rest = only q s (lacks n) (whole v rest) x y in absurd cc

  pub fault_no_text : (q : S) (fault : Fault) (s : List ℕ) → f.says q s (faulty fault) → (v : V) (rest : List ℕ) → f.says q s (whole v rest) → ⊥
  fault_no_text q fault s x v rest y = let e : faulty fault ≡ whole v rest = only q s (faulty fault) (whole v rest) x y in absurd cc

  pub nothing_lacks : (q : S) → f.says q [] (lacks (f.head q))
  nothing_lacks q = let e : 0 + f.head q ≡ f.head q = omega arith in laws.short q [] (f.head q) e (laws.some q)

  -- a fault has at least one byte
  pub fault_some : (q : S) (s : List ℕ) (fault : Fault) → f.says q s (faulty fault) → 0 < length s
  fault_some q [] fault x = let e : lacks (f.head q) ≡ faulty fault = only q [] (lacks (f.head q)) (faulty fault) (nothing_lacks q) x in absurd cc
  fault_some q (b ∷ s) fault x = omega arith

  -- an item is not empty
  pub nothing_no_text : (q : S) (v : V) (rest : List ℕ) → f.says q [] (whole v rest) → ⊥
  nothing_no_text q v rest x = lacks_no_text q (f.head q) [] (nothing_lacks q) v rest x

  pub shorter : (q : S) (v : V) (s rest : List ℕ) → f.says q s (whole v rest) → length rest < length s
  shorter q v s rest x =
      let o = laws.own q s rest v x in
      let some : 0 < length o.0 = elim (cases_lt 0 (length o.0)) [
        | inl lt ↦ lt
        | inr le ↦ absurd (nothing_no_text q v [] (subst (λ (t : List ℕ). f.says q t (whole v [])) (nil_of_length o.0 (omega (arith, le))) o.2))
      ] in
      omega (arith, some, ap length o.1, length-append o.0 rest)

  -- a request is for bytes of the item that comes
  pub fits : (q : S) (n : ℕ) (s more : List ℕ) (v : V) (rest : List ℕ) → f.says q s (lacks n) → f.says q (s ++ more) (whole v rest) → n + length rest ≤ length more
  fits q n s more v rest ask text =
      let o = laws.own q (s ++ more) rest v text in
      let whole_length : length s + length more ≡ length o.0 + length rest = sym (length-append s more) ∙ ap length o.1 ∙ length-append o.0 rest in
      elim (cases_lt (length more) (n + length rest)) [
        | inr le ↦ le
        | inl lt ↦ elim (cases_lt (length o.0) (length s)) [
          | inl within ↦
              let less : length o.0 ≤ length s = omega (arith, within) in
              let w = beginning o.0 rest s more (sym o.1) less in
              let there : f.says q (o.0 ++ w.0) (whole v w.0) = (laws.stable q).text o.0 w.0 [] v o.2 in
              absurd (lacks_no_text q n s ask v w.0 (subst (λ (t : List ℕ). f.says q t (whole v w.0)) (sym w.1) there))
          | inr over ↦
              let w = beginning s more o.0 rest o.1 over in
              let few : length w.0 < n = omega (arith, lt, whole_length, ap length w.1, length-append s w.0) in
              let asks : f.says q (s ++ w.0) (lacks (n - length w.0)) = (laws.stable q).request s w.0 n few ask in
              absurd (lacks_no_text q (n - length w.0) o.0 (subst (λ (t : List ℕ). f.says q t (lacks (n - length w.0))) (sym w.1) asks) v [] o.2)
        ]
      ]

  -- after exactly the requested bytes, nothing follows the item
  pub exact : (q : S) (n : ℕ) (s more : List ℕ) → f.says q s (lacks n) → length more ≡ n → (v : V) (rest : List ℕ) → f.says q (s ++ more) (whole v rest) → rest ≡ []
  exact q n s more ask count v rest text = nil_of_length rest (omega (arith, count, fits q n s more v rest ask text))

  -- bytes have at most one front
  pub front_same : (q : S) (vs ws : List V) (s a b : List ℕ) → Front f q vs s a → Front f q ws s b → (vs ≡ ws) × (a ≡ b)
  front_same q [] [] s a b x y = (refl, sym x.texts ∙ y.texts)
  front_same q [] (w ∷ ws) s a b x y = absurd (x.longest w y.texts.0 (subst (λ (t : List ℕ). f.says q t (whole w y.texts.0)) x.texts y.texts.1))
  front_same q (v ∷ vs) [] s a b x y = absurd (y.longest v x.texts.0 (subst (λ (t : List ℕ). f.says q t (whole v x.texts.0)) y.texts x.texts.1))
  front_same q (v ∷ vs) (w ∷ ws) s a b x y =
      let one = text_same q v w s x.texts.0 y.texts.0 x.texts.1 y.texts.1 in
      let there : Front f (f.goes q v) vs x.texts.0 a = record { texts = x.texts.2; longest = x.longest } in
      let here : Front f (f.goes q w) vs x.texts.0 a = subst (λ (z : V). Front f (f.goes q z) vs x.texts.0 a) one.0 there in
      let mine : Front f (f.goes q w) vs y.texts.0 a = subst (λ (t : List ℕ). Front f (f.goes q w) vs t a) one.1 here in
      let rest = front_same (f.goes q w) vs ws y.texts.0 a b mine (record { texts = y.texts.2; longest = y.longest }) in
      (cons_same v w vs ws one.0 rest.0, rest.1)

  HasFront : S → List ℕ → Type 0
  HasFront q s = (vs : List V) × (rest : List ℕ) × Front f q vs s rest

  front_here : (q : S) (s : List ℕ) → ((v : V) (after : List ℕ) → f.says q s (whole v after) → HasFront (f.goes q v) after) → (v : Verdict V) → f.says q s v → HasFront q s
  unfolding HasFront
  front_here q s deeper (whole v after) x =
      let more = deeper v after x in
      (v ∷ more.0, more.1, record { texts = (after, x, more.2.texts); longest = more.2.longest })
  front_here q s deeper (lacks n) x = ([], s, record { texts = refl; longest = lacks_no_text q n s x })
  front_here q s deeper (faulty fault) x = ([], s, record { texts = refl; longest = fault_no_text q fault s x })

  front_within : (fuel : ℕ) (q : S) (s : List ℕ) → length s ≤ fuel → HasFront q s
  unfolding HasFront
  front_within zero q s le = ([], s, record { texts = refl; longest = λ v after x. absurd (omega (arith, le, shorter q v s after x)) })
  front_within (suc fuel) q s le =
      front_here q s (λ v after x. front_within fuel (f.goes q v) after (omega (arith, le, shorter q v s after x))) ((laws.one q s).value) ((laws.one q s).holds)

  -- any bytes have a front
  pub has_front : (q : S) (s : List ℕ) → (vs : List V) × (rest : List ℕ) × Front f q vs s rest
  unfolding HasFront
  has_front q s = front_within (length s) q s (omega arith)

  -- any bytes have exactly one front
  pub front_one : (q : S) (s : List ℕ) → ExactlyOne (λ (p : List V × List ℕ). Front f q p.0 s p.1)
  front_one q s =
      let there = has_front q s in
      record {
        value = (there.0, there.1);
        holds = there.2;
        only = λ other x. pair_same other.0 there.0 other.1 there.1 (front_same q other.0 there.0 s other.1 there.1 x there.2);
      }

  -- items that begin the bytes are a beginning of those of the front
  pub front_goes_on : (q : S) (vs ws : List V) (s mid rest : List ℕ) → Texts f q vs s mid → Front f q ws s rest
      → (more : List V) × (ws ≡ vs ++ more) × Front f (state_after f q vs) more mid rest
  front_goes_on q [] ws s mid rest texts front = (ws, refl, subst (λ (t : List ℕ). Front f q ws t rest) texts front)
  front_goes_on q (v ∷ vs) [] s mid rest texts front =
      absurd (front.longest v texts.0 (subst (λ (t : List ℕ). f.says q t (whole v texts.0)) front.texts texts.1))
  front_goes_on q (v ∷ vs) (w ∷ ws) s mid rest texts front =
      let one = text_same q w v s front.texts.0 texts.0 front.texts.1 texts.1 in
      let there : Front f (f.goes q w) ws front.texts.0 rest = record { texts = front.texts.2; longest = front.longest } in
      let here : Front f (f.goes q v) ws front.texts.0 rest = subst (λ (z : V). Front f (f.goes q z) ws front.texts.0 rest) one.0 there in
      let mine : Front f (f.goes q v) ws texts.0 rest = subst (λ (t : List ℕ). Front f (f.goes q v) ws t rest) one.1 here in
      let deeper = front_goes_on (f.goes q v) vs ws texts.0 mid rest texts.2 mine in
      (deeper.0, cons_same w v ws (vs ++ deeper.0) one.0 deeper.1, deeper.2)

  -- a front of fewer bytes is a beginning of the front of more
  pub texts_more : (q : S) (vs : List V) (s rest more : List ℕ) → Texts f q vs s rest → Texts f q vs (s ++ more) (rest ++ more)
  texts_more q [] s rest more texts = ap (λ (t : List ℕ). t ++ more) texts
  texts_more q (v ∷ vs) s rest more texts =
      (texts.0 ++ more, (laws.stable q).text s more texts.0 v texts.1, texts_more (f.goes q v) vs texts.0 rest more texts.2)

  -- the items' bytes alone
  pub texts_own : (q : S) (vs : List V) (s rest : List ℕ) → Texts f q vs s rest → (t : List ℕ) × (s ≡ t ++ rest) × Texts f q vs t []
  texts_own q [] s rest texts = ([], texts, refl)
  texts_own q (v ∷ vs) s rest texts =
      let one = laws.own q s texts.0 v texts.1 in
      let more = texts_own (f.goes q v) vs texts.0 rest texts.2 in (
        one.0 ++ more.0,
        one.1 ∙ ap (λ (t : List ℕ). one.0 ++ t) more.1 ∙ sym (append_assoc one.0 more.0 rest),
        (more.0, (laws.stable q).text one.0 more.0 [] v one.2, more.2),
      )

  -- if no item begins what is left after some items, they are all of the front
  pub nothing_more : (q : S) (more : List V) (mid rest : List ℕ) → Front f q more mid rest → ((v : V) (after : List ℕ) → f.says q mid (whole v after) → ⊥) → (more ≡ []) × (rest ≡ mid)
  nothing_more q [] mid rest front none = (refl, sym front.texts)
  nothing_more q (v ∷ more) mid rest front none = absurd (none v front.texts.0 front.texts.1)

  -- the number of requests that are left, by the verdict on the held bytes
  pub requests_of : S → List ℕ → Verdict V → ℕ
  requests_of q s (whole v rest) = 0
  requests_of q s (faulty fault) = 0
  requests_of q s (lacks n) = if nat_lt (length s) (f.head q) then 2 else 1

  pub requests_left : S → List ℕ → ℕ
  requests_left q s = requests_of q s ((laws.one q s).value)

  said_requests : (q : S) (s : List ℕ) (v : Verdict V) → f.says q s v → requests_left q s ≡ requests_of q s v
  unfolding requests_left
  said_requests q s v x = ap (requests_of q s) (sym ((laws.one q s).only v x))

  -- bytes shorter than a head lack the rest of the head
  pub short_asks : (q : S) (s : List ℕ) (n : ℕ) → length s < f.head q → f.says q s (lacks n) → length s + n ≡ f.head q
  short_asks q s n lt ask =
      let m = f.head q - length s in
      let there : f.says q s (lacks m) = laws.short q s m (omega (arith, lt)) (omega (arith, lt)) in
      let e : lacks n ≡ lacks m = only q s (lacks n) (lacks m) ask there in
      let is : n ≡ m = cc in
      omega (arith, lt, is)

  requests_after : (q : S) (s : List ℕ) (n : ℕ) → f.says q s (lacks n) → (more : List ℕ) → length more ≡ n → (v : Verdict V) → f.says q (s ++ more) v → requests_of q (s ++ more) v < requests_of q s (lacks n)
  unfolding requests_of
  requests_after q s n ask more count (whole v rest) x = grind (arith, nat_tests)
  requests_after q s n ask more count (faulty fault) x = grind (arith, nat_tests)
  requests_after q s n ask more count (lacks m) x =
      elim (cases_lt (length s) (f.head q)) [
        | inl lt ↦
            let long : length (s ++ more) ≡ f.head q = omega (arith, length-append s more, count, short_asks q s n lt ask) in
            grind (arith, nat_tests, long, lt)
        | inr le ↦ absurd (laws.last q s more n m le ask count x)
      ]

  -- each request that is met leaves fewer, and there are at most two
  pub requests_fall : (q : S) (s : List ℕ) (n : ℕ) (more : List ℕ) → f.says q s (lacks n) → length more ≡ n → requests_left q (s ++ more) < requests_left q s
  requests_fall q s n more ask count =
      let o = laws.one q (s ++ more) in
      let a : requests_left q (s ++ more) ≡ requests_of q (s ++ more) o.value = said_requests q (s ++ more) o.value o.holds in
      let b : requests_left q s ≡ requests_of q s (lacks n) = said_requests q s (lacks n) ask in
      rw (a, b) (requests_after q s n ask more count o.value o.holds)

  requests_few : (q : S) (s : List ℕ) (v : Verdict V) → requests_of q s v ≤ 2
  unfolding requests_of
  requests_few q s (whole v rest) = omega arith
  requests_few q s (faulty fault) = omega arith
  requests_few q s (lacks n) = grind (arith, nat_tests)

  asks_within : (q : S) (ns : List ℕ) (s t : List ℕ) → Asks f q ns s t → length ns ≤ requests_left q s
  asks_within q [] s t asked = omega arith
  asks_within q (n ∷ ns) s t asked =
      omega (arith, requests_fall q s n asked.0 asked.1 asked.2, asks_within q ns (s ++ asked.0) t asked.3)

  -- if exactly the requested bytes are added, there are at most two requests
  pub asks_twice : (q : S) (ns : List ℕ) (s t : List ℕ) → Asks f q ns s t → length ns ≤ 2
  unfolding requests_left
  asks_twice q ns s t asked = omega (arith, asks_within q ns s t asked, requests_few q s ((laws.one q s).value))

  -- and nothing follows the item, if there was a request
  pub asks_exact : (q : S) (n : ℕ) (ns : List ℕ) (s t : List ℕ) → Asks f q (n ∷ ns) s t → (v : V) (rest : List ℕ) → f.says q t (whole v rest) → rest ≡ []
  asks_exact q n [] s t asked v rest text =
      exact q n s asked.0 asked.1 asked.2 v rest (subst (λ (u : List ℕ). f.says q u (whole v rest)) (sym asked.3) text)
  asks_exact q n (m ∷ ns) s t asked v rest text = asks_exact q m ns (s ++ asked.0) t asked.3 v rest text

  -- each shorter beginning of an item requests bytes of the item
  pub beginning_asks : (q : S) (s more : List ℕ) (v : V) (rest : List ℕ) → f.says q (s ++ more) (whole v rest) → length rest < length more
      → (n : ℕ) × f.says q s (lacks n) × (n + length rest ≤ length more)
  beginning_asks q s more v rest text lt = said ((laws.one q s).value) ((laws.one q s).holds)
    where
      said : (x : Verdict V) → f.says q s x → (n : ℕ) × f.says q s (lacks n) × (n + length rest ≤ length more)
      said (lacks n) x = (n, x, fits q n s more v rest x text)
      said (faulty fault) x = absurd (fault_no_text q fault (s ++ more) ((laws.stable q).fault s more fault x) v rest text)
      said (whole w after) x =
          let same = text_same q w v (s ++ more) (after ++ more) rest ((laws.stable q).text s more after w x) text in
          absurd (omega (arith, lt, ap length same.1, length-append after more))

  -- the request after a head is for all other bytes of the item
  pub second_is_all : (q : S) (v : V) (h b : List ℕ) (k : ℕ) → f.head q ≤ length h → f.says q (h ++ b) (whole v []) → f.says q h (lacks k) → k ≡ length b
  second_is_all q v h b k long text ask =
      let fit : k + length {A = ℕ} [] ≤ length b = fits q k h b v [] ask text in
      elim (cases_lt k (length b)) [
        | inr ge ↦ omega (arith, ge, fit)
        | inl less ↦
            let m = take k b in
            let r = drop k b in
            let split : b ≡ m ++ r = sym (take-append-drop k b) in
            let count : length m ≡ k = omega (arith, less, length-take k b) in
            let some : 0 < length r = omega (arith, less, count, ap length split, length-append m r) in
            let there : f.says q ((h ++ m) ++ r) (whole v []) = subst (λ (u : List ℕ). f.says q u (whole v [])) (ap (λ (u : List ℕ). h ++ u) split ∙ sym (append_assoc h m r)) text in
            let again = beginning_asks q (h ++ m) r v [] there some in
            absurd (laws.last q h m k again.0 long ask count again.1)
      ]

  -- these requests are made
  pub requests_there : (q : S) (v : V) (t : List ℕ) → f.says q t (whole v []) → (ns : List ℕ) × Asks f q ns [] t
  requests_there q v t text =
      let long : f.head q + length {A = ℕ} [] ≤ length t = fits q (f.head q) [] t v [] (nothing_lacks q) text in
      let h = take (f.head q) t in
      let b = drop (f.head q) t in
      let split : t ≡ h ++ b = sym (take-append-drop (f.head q) t) in
      let count : length h ≡ f.head q = omega (arith, long, length-take (f.head q) t) in
      let here : f.says q (h ++ b) (whole v []) = subst (λ (u : List ℕ). f.says q u (whole v [])) split text in
      elim (cases_lt 0 (length b)) [
        | inr le ↦
            let none : b ≡ [] = nil_of_length b (omega (arith, le)) in
            (f.head q ∷ [], (h, nothing_lacks q, count, sym (split ∙ ap (λ (u : List ℕ). h ++ u) none ∙ append-nil h)))
        | inl some ↦
            let ask = beginning_asks q h b v [] here some in
            let all : ask.0 ≡ length b = second_is_all q v h b ask.0 (omega (arith, count)) here ask.1 in
            (f.head q ∷ ask.0 ∷ [], (h, nothing_lacks q, count, (b, ask.1, sym all, sym split)))
      ]

-- ---- what needs no law

-- one more item
pub texts_push : {S V : Type 0} (f : Format S V) (q : S) (vs : List V) (v : V) (s mid rest : List ℕ) → Texts f q vs s mid → f.says (state_after f q vs) mid (whole v rest) → Texts f q (vs ++ v ∷ []) s rest
texts_push f q [] v s mid rest texts text = (rest, subst (λ (t : List ℕ). f.says q t (whole v rest)) (sym texts) text, refl)
texts_push f q (x ∷ vs) v s mid rest texts text = (texts.0, texts.1, texts_push f (f.goes q x) vs v texts.0 mid rest texts.2 text)

-- items after items
pub texts_all : {S V : Type 0} (f : Format S V) (q : S) (vs ws : List V) (s mid rest : List ℕ) → Texts f q vs s mid → Texts f (state_after f q vs) ws mid rest → Texts f q (vs ++ ws) s rest
texts_all f q [] ws s mid rest texts more = subst (λ (t : List ℕ). Texts f q ws t rest) (sym texts) more
texts_all f q (v ∷ vs) ws s mid rest texts more = (texts.0, texts.1, texts_all f (f.goes q v) vs ws texts.0 mid rest texts.2 more)

pub state_push : {S V : Type 0} (f : Format S V) (q : S) (vs : List V) (v : V) → state_after f q (vs ++ v ∷ []) ≡ f.goes (state_after f q vs) v
state_push f q [] v = refl
state_push f q (x ∷ vs) v = state_push f (f.goes q x) vs v

-- the items of a format are items of a format that extends it
pub texts_extend : {S V : Type 0} (f g : Format S V) → Extends f g → (q : S) (vs : List V) (s rest : List ℕ) → Texts f q vs s rest → Texts g q vs s rest
texts_extend f g e q [] s rest texts = texts
texts_extend f g e q (v ∷ vs) s rest texts =
    let deeper = texts_extend f g e (f.goes q v) vs texts.0 rest texts.2 in
    (texts.0, e.texts q s texts.0 v texts.1, subst (λ (p : _). Texts g p vs texts.0 rest) (e.goes q v) deeper)

-- the front by a format is a beginning of the front by a format that extends it
pub front_extends : {S V : Type 0} (f g : Format S V) → IsLawful g → Extends f g → (q : S) (vs ws : List V) (s a b : List ℕ) → Front f q vs s a → Front g q ws s b → (more : List V) × (ws ≡ vs ++ more)
front_extends f g laws e q vs ws s a b x y =
    let on = front_goes_on g laws q vs ws s a b (texts_extend f g e q vs s a x.texts) y in
    (on.0, on.1)

-- a format with the same verdicts and heads of the same lengths is lawful too
pub lawful_moved : {S V : Type 0} (f g : Format S V) → ((q : S) → f.head q ≡ g.head q) → ((q : S) (s : List ℕ) (v : Verdict V) → f.says q s v → g.says q s v)
    → ((q : S) (s : List ℕ) (v : Verdict V) → g.says q s v → f.says q s v) → IsLawful f → IsLawful g
lawful_moved f g head to from laws = record {
  one = λ q s. let o = laws.one q s in record { value = o.value; holds = to q s o.value o.holds; only = λ other x. o.only other (from q s other x) };
  stable = λ q. record {
    text = λ s more rest v x. to q (s ++ more) (whole v (rest ++ more)) ((laws.stable q).text s more rest v (from q s (whole v rest) x));
    fault = λ s more fault x. to q (s ++ more) (faulty fault) ((laws.stable q).fault s more fault (from q s (faulty fault) x));
    request = λ s more n fewer x. to q (s ++ more) (lacks (n - length more)) ((laws.stable q).request s more n fewer (from q s (lacks n) x));
  };
  own = λ q s rest v x. let o = laws.own q s rest v (from q s (whole v rest) x) in (o.0, o.1, to q o.0 (whole v []) o.2);
  some = λ q. omega (arith, head q, laws.some q);
  asks = λ q s n x. laws.asks q s n (from q s (lacks n) x);
  short = λ q s n sum some. to q s (lacks n) (laws.short q s n (sum ∙ sym (head q)) some);
  last = λ q s more n m long x count y. laws.last q s more n m (omega (arith, head q, long)) (from q s (lacks n) x) count (from q (s ++ more) (lacks m) y);
}
