-- The requests of a run that adds exactly the bytes that were requested.
use Rattle.std.proofs.Common.{◌≡◌, ◌<◌, ◌≤◌, ◌+◌, ◌-◌, ◌*◌, ℕ, List, [], ◌∷◌, ◌++◌, length, take, drop, refl, sym, ap, subst, ◌∙◌, arith, append_assoc, append-nil, length-append, length-drop, inl, inr}
use Rattle.std.proofs.lemmas.Bool.{cases_lt}
use Rattle.std.proofs.lemmas.List.{length-take-le, take-append-drop}
use Rattle.std.proofs.Math.Seq.{take-add}
use Rattle.pcap_core.specs.Faults.{Fault}
use Rattle.pcap_core.specs.Answer.{whole, lacks, faulty}
use Rattle.pcap_items.specs.Format.{Format, Texts, state_after, Asks, IsLawful}
use Rattle.pcap_items.specs.Requested.{RequestsAt, head_short, head_alone, head_first, ItemRequests, RestRequests, RunRequests, HeadThenRest}
use Rattle.pcap_items.proofs.Formats.{text_same, lacks_no_text, requests_there, nothing_lacks, nothing_no_text, shorter, short_asks, asks_twice, asks_exact, requests_left, requests_fall, only, beginning, beginning_asks, fits, second_is_all}
use Rattle.pcap_core.proofs.Texts.{split_same}

-- ---- what needs no law

-- one more request
pub asks_push : {S V : Type 0} (f : Format S V) (q : S) (ns : List ℕ) (n : ℕ) (s t more : List ℕ) → Asks f q ns s t → f.says q t (lacks n) → length more ≡ n → Asks f q (ns ++ n ∷ []) s (t ++ more)
asks_push f q [] n s t more asked ask count =
    (more, subst (λ (u : List ℕ). f.says q u (lacks n)) (sym asked) ask, count, ap (λ (u : List ℕ). u ++ more) asked)
asks_push f q (m ∷ ns) n s t more asked ask count =
    (asked.0, asked.1, asked.2, asks_push f q ns n (s ++ asked.0) t more asked.3 ask count)

-- the requests for items are for their bytes
pub item_texts : {S V : Type 0} (f : Format S V) (q : S) (vs : List V) (s rest ns : List ℕ) → ItemRequests f q vs s rest ns → Texts f q vs s rest
item_texts f q [] s rest ns asked = asked.0
item_texts f q (v ∷ vs) s rest ns asked = (asked.0, asked.3, item_texts f (f.goes q v) vs asked.0 rest asked.2 asked.5)

-- one more item
pub items_push : {S V : Type 0} (f : Format S V) (q : S) (vs : List V) (v : V) (s mid rest ns here : List ℕ) → ItemRequests f q vs s mid ns
    → f.says (state_after f q vs) mid (whole v rest) → RequestsAt f (state_after f q vs) mid here → ItemRequests f q (vs ++ v ∷ []) s rest (ns ++ here)
items_push f q [] v s mid rest ns here asked text requests = (
  rest,
  here,
  [],
  subst (λ (t : List ℕ). f.says q t (whole v rest)) (sym asked.0) text,
  subst (λ (t : List ℕ). RequestsAt f q t here) (sym asked.0) requests,
  (refl, refl),
  ap (λ (l : List ℕ). l ++ here) asked.1 ∙ sym (append-nil here),
)
items_push f q (x ∷ vs) v s mid rest ns here asked text requests = (
  asked.0,
  asked.1,
  asked.2 ++ here,
  asked.3,
  asked.4,
  items_push f (f.goes q x) vs v asked.0 mid rest asked.2 here asked.5 text requests,
  ap (λ (l : List ℕ). l ++ here) asked.6 ∙ append_assoc asked.1 asked.2 here,
)

-- there are at most two requests for an item
pub requests_at_few : {S V : Type 0} (f : Format S V) (q : S) (s ns : List ℕ) → RequestsAt f q s ns → length ns ≤ 2
requests_at_few f q s ns (head_short short is) = omega (arith, ap length is)
requests_at_few f q s ns (head_alone bytes more text count none is) = omega (arith, ap length is)
requests_at_few f q s ns (head_first bytes more n text count ask is) = omega (arith, ap length is)

pub items_few : {S V : Type 0} (f : Format S V) (q : S) (vs : List V) (s rest ns : List ℕ) → ItemRequests f q vs s rest ns → length ns ≤ 2 * length vs
items_few f q [] s rest ns asked = omega (arith, ap length asked.1)
items_few f q (v ∷ vs) s rest ns asked =
    omega (arith, requests_at_few f q s asked.1 asked.4, items_few f (f.goes q v) vs asked.0 rest asked.2 asked.5, ap length asked.6, length-append asked.1 asked.2)

rest_few : {S V : Type 0} (f : Format S V) (q : S) (rest ns : List ℕ) → RestRequests f q rest ns → length ns ≤ 2
rest_few f q rest ns (inl none) = omega (arith, ap length none.1)
rest_few f q rest ns (inr some) = requests_at_few f q rest ns some.1

pub run_few : {S V : Type 0} (f : Format S V) (q : S) (vs : List V) (s rest ns : List ℕ) → RunRequests f q vs s rest ns → length ns ≤ 2 * length vs + 2
run_few f q vs s rest ns run =
    omega (arith, items_few f q vs s rest run.for_items run.items, rest_few f (state_after f q vs) rest run.at_rest run.last, ap length run.all, length-append run.for_items run.at_rest)

module _ {S V : Type 0} (f : Format S V) (laws : IsLawful f) (q : S) where
  -- the first m bytes of s were shown in these requests, each met exactly
  pub record Asking (s : List ℕ) (m : ℕ) (ns : List ℕ) : Type 0 where
    pub within : m ≤ length s
    pub asks : Asks f q ns [] (take m s)

  pub asking_none : (s : List ℕ) → Asking s 0 []
  asking_none s = record { within = omega arith; asks = refl }

  pub asking_few : (s : List ℕ) (m : ℕ) (ns : List ℕ) → Asking s m ns → length ns ≤ 2
  asking_few s m ns a = asks_twice f laws q ns [] (take m s) a.asks

  -- a request that is met
  pub asking_more : (s : List ℕ) (m : ℕ) (ns : List ℕ) (n : ℕ) → Asking s m ns → f.says q (take m s) (lacks n) → m + n ≤ length s → Asking s (m + n) (ns ++ n ∷ [])
  asking_more s m ns n a ask fits =
      let more = take n (drop m s) in
      let count : length more ≡ n = length-take-le n (drop m s) (omega (arith, fits, length-drop m s)) in
      record { within = fits; asks = rw (take-add m n s) (asks_push f q ns n [] (take m s) more a.asks ask count) }

  -- a request that is met leaves fewer requests
  pub asking_smaller : (s : List ℕ) (m n : ℕ) → f.says q (take m s) (lacks n) → m + n ≤ length s → requests_left f laws q (take (m + n) s) < requests_left f laws q (take m s)
  asking_smaller s m n ask fits =
      let more = take n (drop m s) in
      let count : length more ≡ n = length-take-le n (drop m s) (omega (arith, fits, length-drop m s)) in
      rw (take-add m n s) (requests_fall f laws q (take m s) n more ask count)

  -- no bytes are shown after an item
  nothing_behind : (ns : List ℕ) (held : List ℕ) → Asks f q ns [] held → (v : V) (rest : List ℕ) → f.says q held (whole v rest) → rest ≡ []
  nothing_behind [] held asked v rest text = absurd (nothing_no_text f laws q v rest (subst (λ (t : List ℕ). f.says q t (whole v rest)) (sym asked) text))
  nothing_behind (n ∷ ns) held asked v rest text = asks_exact f laws q n ns [] held asked v rest text

  pub asking_item : (s : List ℕ) (m : ℕ) (ns : List ℕ) → Asking s m ns → (v : V) (rest : List ℕ) → f.says q (take m s) (whole v rest) → f.says q s (whole v (drop m s))
  asking_item s m ns a v rest text =
      let none : rest ≡ [] = nothing_behind ns (take m s) a.asks v rest text in
      let alone : f.says q (take m s) (whole v []) = subst (λ (t : List ℕ). f.says q (take m s) (whole v t)) none text in
      subst (λ (t : List ℕ). f.says q t (whole v (drop m s))) (take-append-drop m s) ((laws.stable q).text (take m s) (drop m s) [] v alone)

  pub asking_fault : (s : List ℕ) (m : ℕ) (fault : Fault) → f.says q (take m s) (faulty fault) → f.says q s (faulty fault)
  asking_fault s m fault x =
      subst (λ (t : List ℕ). f.says q t (faulty fault)) (take-append-drop m s) ((laws.stable q).fault (take m s) (drop m s) fault x)

  -- a request that is not met
  pub asking_short : (s : List ℕ) (m n : ℕ) → f.says q (take m s) (lacks n) → length s - m < n → f.says q s (lacks (n - (length s - m)))
  asking_short s m n ask few =
      let count : length (drop m s) ≡ length s - m = length-drop m s in
      let there = (laws.stable q).request (take m s) (drop m s) n (omega (arith, count, few)) ask in
      let same : f.says q s (lacks (n - length (drop m s))) = subst (λ (t : List ℕ). f.says q t (lacks (n - length (drop m s)))) (take-append-drop m s) there in
      subst (λ (k : ℕ). f.says q s (lacks (n - k))) count same

  first_is : (n : ℕ) → f.says q [] (lacks n) → n ≡ f.head q
  first_is n ask = let sum : length {A = ℕ} [] + n ≡ f.head q = short_asks f laws q [] n (laws.some q) ask in omega (arith, sum)

  -- once an item or a fault is found, the requests for it were made
  ends_told : (ns : List ℕ) (s held left : List ℕ) → s ≡ held ++ left → Asks f q ns [] held → ((n : ℕ) → f.says q held (lacks n) → ⊥) → RequestsAt f q s ns
  ends_told [] s held left text asked none = absurd (none (f.head q) (subst (λ (t : List ℕ). f.says q t (lacks (f.head q))) asked (nothing_lacks f laws q)))
  ends_told (n ∷ []) s held left text asked none =
      let is : n ≡ f.head q = first_is n asked.1 in
      let all : asked.0 ≡ held = asked.3 in
      head_alone held left text (omega (arith, is, asked.2, ap length all)) none (ap (λ (k : ℕ). k ∷ []) is)
  ends_told (n ∷ k ∷ []) s held left text asked none =
      let is : n ≡ f.head q = first_is n asked.1 in
      let more = asked.3 in
      let all : asked.0 ++ more.0 ≡ held = more.3 in
      let there : s ≡ asked.0 ++ (more.0 ++ left) = text ∙ ap (λ (t : List ℕ). t ++ left) (sym all) ∙ append_assoc asked.0 more.0 left in
      head_first asked.0 (more.0 ++ left) k there (omega (arith, is, asked.2)) more.1 (ap (λ (i : ℕ). i ∷ k ∷ []) is)
  ends_told (n ∷ k ∷ m ∷ ns) s held left text asked none = absurd (omega (arith, asks_twice f laws q (n ∷ k ∷ m ∷ ns) [] held asked))

  -- they were also made at the end of the bytes
  ends_short : (ns : List ℕ) (n : ℕ) (s held left : List ℕ) → s ≡ held ++ left → Asks f q ns [] held → f.says q held (lacks n) → length left < n → RequestsAt f q s (ns ++ n ∷ [])
  ends_short [] n s held left text asked ask few =
      let none : [] ≡ held = asked in
      let is : n ≡ f.head q = first_is n (subst (λ (t : List ℕ). f.says q t (lacks n)) (sym none) ask) in
      head_short (omega (arith, is, few, ap length text, length-append held left, ap length none)) (ap (λ (k : ℕ). k ∷ []) is)
  ends_short (k ∷ []) n s held left text asked ask few =
      let is : k ≡ f.head q = first_is k asked.1 in
      let all : asked.0 ≡ held = asked.3 in
      head_first held left n text (omega (arith, is, asked.2, ap length all)) ask (ap (λ (i : ℕ). i ∷ n ∷ []) is)
  ends_short (k ∷ m ∷ []) n s held left text asked ask few =
      let is : k ≡ f.head q = first_is k asked.1 in
      let more = asked.3 in
      let all : asked.0 ++ more.0 ≡ held = more.3 in
      absurd (laws.last q asked.0 more.0 m n (omega (arith, is, asked.2)) more.1 more.2 (subst (λ (t : List ℕ). f.says q t (lacks n)) (sym all) ask))
  ends_short (k ∷ m ∷ i ∷ ns) n s held left text asked ask few = absurd (omega (arith, asks_twice f laws q (k ∷ m ∷ i ∷ ns) [] held asked))

  pub asking_told : (s : List ℕ) (m : ℕ) (ns : List ℕ) → Asking s m ns → ((n : ℕ) → f.says q (take m s) (lacks n) → ⊥) → RequestsAt f q s ns
  asking_told s m ns a none = ends_told ns s (take m s) (drop m s) (sym (take-append-drop m s)) a.asks none

  pub asking_ended : (s : List ℕ) (m : ℕ) (ns : List ℕ) (n : ℕ) → Asking s m ns → f.says q (take m s) (lacks n) → length s - m < n → RequestsAt f q s (ns ++ n ∷ [])
  asking_ended s m ns n a ask few =
      ends_short ns n s (take m s) (drop m s) (sym (take-append-drop m s)) a.asks ask (omega (arith, few, length-drop m s))

-- each item takes at least one byte
pub texts_long : {S V : Type 0} (f : Format S V) → IsLawful f → (q : S) (vs : List V) (s rest : List ℕ) → Texts f q vs s rest → length vs + length rest ≤ length s
texts_long f laws q [] s rest texts = omega (arith, ap length texts)
texts_long f laws q (v ∷ vs) s rest texts =
    omega (arith, shorter f laws q v s texts.0 texts.1, texts_long f laws (f.goes q v) vs texts.0 rest texts.2)

-- ---- there are no other requests

module _ {S V : Type 0} (f : Format S V) (laws : IsLawful f) (q : S) where
  alone_first : (s bytes more other behind : List ℕ) (n : ℕ) → s ≡ bytes ++ more → length bytes ≡ f.head q → ((k : ℕ) → f.says q bytes (lacks k) → ⊥)
      → s ≡ other ++ behind → length other ≡ f.head q → f.says q other (lacks n) → ⊥
  alone_first s bytes more other behind n text count none text2 count2 ask =
      let e = split_same other behind bytes more (count2 ∙ sym count) (sym text2 ∙ text) in
      none n (subst (λ (t : List ℕ). f.says q t (lacks n)) e.0 ask)

  pub requests_at_one : (s a b : List ℕ) → RequestsAt f q s a → RequestsAt f q s b → a ≡ b
  requests_at_one s a b (head_short lt is) (head_short lt2 is2) = is ∙ sym is2
  requests_at_one s a b (head_short lt is) (head_alone bytes more text count none is2) = is ∙ sym is2
  requests_at_one s a b (head_short lt is) (head_first bytes more n text count ask is2) = absurd (omega (arith, lt, count, ap length text, length-append bytes more))
  requests_at_one s a b (head_alone bytes more text count none is) (head_short lt is2) = is ∙ sym is2
  requests_at_one s a b (head_alone bytes more text count none is) (head_alone bytes2 more2 text2 count2 none2 is2) = is ∙ sym is2
  requests_at_one s a b (head_alone bytes more text count none is) (head_first bytes2 more2 n text2 count2 ask is2) =
      absurd (alone_first s bytes more bytes2 more2 n text count none text2 count2 ask)
  requests_at_one s a b (head_first bytes more n text count ask is) (head_short lt is2) = absurd (omega (arith, lt, count, ap length text, length-append bytes more))
  requests_at_one s a b (head_first bytes more n text count ask is) (head_alone bytes2 more2 text2 count2 none is2) =
      absurd (alone_first s bytes2 more2 bytes more n text2 count2 none text count ask)
  requests_at_one s a b (head_first bytes more n text count ask is) (head_first bytes2 more2 m text2 count2 ask2 is2) =
      let e = split_same bytes more bytes2 more2 (count ∙ sym count2) (sym text ∙ text2) in
      let here : f.says q bytes2 (lacks n) = subst (λ (t : List ℕ). f.says q t (lacks n)) e.0 ask in
      let one : lacks n ≡ lacks m = only f laws q bytes2 (lacks n) (lacks m) here ask2 in
      let same : n ≡ m = cc in
      is ∙ ap (λ (k : ℕ). f.head q ∷ k ∷ []) same ∙ sym is2

  pub item_asks : (s ns : List ℕ) (v : V) (t after : List ℕ) → s ≡ t ++ after → f.says q t (whole v []) → RequestsAt f q s ns → HeadThenRest (f.head q) (length t) ns
  item_asks s ns v t after own text (head_short lt is) =
      let long : f.head q + length {A = ℕ} [] ≤ length t = fits f laws q (f.head q) [] t v [] (nothing_lacks f laws q) text in
      absurd (omega (arith, lt, long, ap length own, length-append t after))
  item_asks s ns v t after own text (head_alone bytes more cut count none is) =
      let long : f.head q + length {A = ℕ} [] ≤ length t = fits f laws q (f.head q) [] t v [] (nothing_lacks f laws q) text in
      let w = beginning bytes more t after (sym cut ∙ own) (omega (arith, long, count)) in
      let there : f.says q (bytes ++ w.0) (whole v []) = subst (λ (u : List ℕ). f.says q u (whole v [])) w.1 text in
      let all : length t ≡ f.head q = elim (cases_lt 0 (length w.0)) [
        | inl some ↦ let ask = beginning_asks f laws q bytes w.0 v [] there some in absurd (none ask.0 ask.1)
        | inr le ↦ omega (arith, le, count, ap length w.1, length-append bytes w.0)
      ] in
      inl (all, is)
  item_asks s ns v t after own text (head_first bytes more n cut count ask is) =
      let long : f.head q + length {A = ℕ} [] ≤ length t = fits f laws q (f.head q) [] t v [] (nothing_lacks f laws q) text in
      let w = beginning bytes more t after (sym cut ∙ own) (omega (arith, long, count)) in
      let there : f.says q (bytes ++ w.0) (whole v []) = subst (λ (u : List ℕ). f.says q u (whole v [])) w.1 text in
      let all : n ≡ length w.0 = second_is_all f laws q v bytes w.0 n (omega (arith, count)) there ask in
      inr (n, laws.asks q bytes n ask, omega (arith, all, count, ap length w.1, length-append bytes w.0), is)

  -- if there is an item, its requests are for its bytes, and are the requests that asking makes
  pub requests_asked : (s rest ns : List ℕ) (v : V) → f.says q s (whole v rest) → RequestsAt f q s ns → (t : List ℕ) × (s ≡ t ++ rest) × HeadThenRest (f.head q) (length t) ns × Asks f q ns [] t
  requests_asked s rest ns v text asked =
      let o = laws.own q s rest v text in
      let there = requests_there f laws q v o.0 o.2 in
      let told = ends_told f laws q there.0 s o.0 rest o.1 there.1 (λ n x. lacks_no_text f laws q n o.0 x v [] o.2) in
      let same : there.0 ≡ ns = requests_at_one s there.0 ns told asked in
      (o.0, o.1, item_asks s ns v o.0 rest o.1 o.2 asked, subst (λ (l : List ℕ). Asks f q l [] o.0) same there.1)

pub items_one : {S V : Type 0} (f : Format S V) → IsLawful f → (q : S) (vs : List V) (s rest a b : List ℕ) → ItemRequests f q vs s rest a → ItemRequests f q vs s rest b → a ≡ b
items_one f laws q [] s rest a b x y = x.1 ∙ sym y.1
items_one f laws q (v ∷ vs) s rest a b x y =
    let same = text_same f laws q v v s x.0 y.0 x.3 y.3 in
    let further : ItemRequests f (f.goes q v) vs y.0 rest x.2 = subst (λ (t : List ℕ). ItemRequests f (f.goes q v) vs t rest x.2) same.1 x.5 in
    let one = requests_at_one f laws q s x.1 y.1 x.4 y.4 in
    let two = items_one f laws (f.goes q v) vs y.0 rest x.2 y.2 further y.5 in
    x.6 ∙ ap (λ (l : List ℕ). l ++ x.2) one ∙ ap (λ (l : List ℕ). y.1 ++ l) two ∙ sym y.6

rest_one : {S V : Type 0} (f : Format S V) → IsLawful f → (q : S) (rest a b : List ℕ) → RestRequests f q rest a → RestRequests f q rest b → a ≡ b
rest_one f laws q rest a b (inl x) (inl y) = x.1 ∙ sym y.1
rest_one f laws q rest a b (inl x) (inr y) = absurd (omega (arith, ap length x.0, y.0))
rest_one f laws q rest a b (inr x) (inl y) = absurd (omega (arith, ap length y.0, x.0))
rest_one f laws q rest a b (inr x) (inr y) = requests_at_one f laws q rest a b x.1 y.1

pub run_one : {S V : Type 0} (f : Format S V) → IsLawful f → (q : S) (vs : List V) (s rest a b : List ℕ) → RunRequests f q vs s rest a → RunRequests f q vs s rest b → a ≡ b
run_one f laws q vs s rest a b x y =
    x.all ∙ ap (λ (l : List ℕ). l ++ x.at_rest) (items_one f laws q vs s rest x.for_items y.for_items x.items y.items)
    ∙ ap (λ (l : List ℕ). y.for_items ++ l) (rest_one f laws (state_after f q vs) rest x.at_rest y.at_rest x.last y.last) ∙ sym y.all
