-- Formats with a head are lawful.
use Rattle.std.proofs.Common.{◌≡◌, ℕ, ◌+◌, ◌-◌, ◌<◌, ◌≤◌, List, [], ◌++◌, length, take, drop, refl, sym, ap, subst, ◌∙◌, arith, append_assoc, append-nil, length-append, inl, inr}
use Rattle.std.proofs.lemmas.List.{length-take, take-append-drop}
use Rattle.std.proofs.lemmas.Bool.{cases_lt}
use Rattle.pcap_core.specs.Faults.{Fault}
use Rattle.pcap_core.specs.Answer.{Verdict, whole, lacks, faulty}
use Rattle.pcap_core.specs.Laws.{ExactlyOne}
use Rattle.pcap_items.specs.Format.{IsLawful}
use Rattle.pcap_items.specs.Headed.{Piece, HeadReading, good, bad, Headed, HasHead, HasBody, ShortSays, BadSays, BehindSays, HeadedSays, headed, IsHeaded}
use Rattle.pcap_core.proofs.Texts.{split_same}

pub piece_there : (n : ℕ) (s : List ℕ) → n ≤ length s → (bytes : List ℕ) × (rest : List ℕ) × (s ≡ bytes ++ rest) × (length bytes ≡ n)
piece_there n s long = (take n s, drop n s, sym (take-append-drop n s), omega (arith, length-take n s))

pub piece_length : (n : ℕ) (P : List ℕ → Type 0) (s rest : List ℕ) → Piece n P s rest → length s ≡ n + length rest
piece_length n P s rest p = omega (arith, ap length p.text, length-append p.bytes rest, p.length_is)

pub piece_more : (n : ℕ) (P : List ℕ → Type 0) (s rest more : List ℕ) → Piece n P s rest → Piece n P (s ++ more) (rest ++ more)
piece_more n P s rest more p = record { bytes = p.bytes; text = ap (λ (t : List ℕ). t ++ more) p.text ∙ append_assoc p.bytes rest more; length_is = p.length_is; holds = p.holds }

-- two pieces with the same length and place are the same bytes, which have one reading
pub piece_same : {X : Type 0} (n : ℕ) (P : List ℕ → X → Type 0) → ((b : List ℕ) → length b ≡ n → ExactlyOne (P b)) → (x y : X) (s a c : List ℕ) → Piece n (λ b. P b x) s a → Piece n (λ b. P b y) s c → (x ≡ y) × (a ≡ c)
piece_same {X} n P one x y s a c p r =
    let e = split_same p.bytes a r.bytes c (p.length_is ∙ sym r.length_is) (sym p.text ∙ r.text) in
    let here : P r.bytes x = subst (λ (b : List ℕ). P b x) e.0 p.holds in
    let o = one r.bytes r.length_is in
    (o.only x here ∙ sym (o.only y r.holds), e.1)

good_same : {X : Type 0} (x y : X) → good x ≡ good y → x ≡ y
good_same x y e = cc

module _ {S X V : Type 0} (g : Headed S X V) (laws : IsHeaded g) (q : S) where
  head_same : (h k : HeadReading X) (s a c : List ℕ) → HasHead g q h s a → HasHead g q k s c → (h ≡ k) × (a ≡ c)
  head_same h k s a c = piece_same (g.head q) (g.reads q) (laws.heads q) h k s a c

  body_same : (x : X) (m l : HeadReading V) (s a c : List ℕ) → HasBody g q x m s a → HasBody g q x l s c → (m ≡ l) × (a ≡ c)
  body_same x m l s a c = piece_same (g.size x) (g.means q x) (laws.bodies q x) m l s a c

  head_length : (h : HeadReading X) (s a : List ℕ) → HasHead g q h s a → length s ≡ g.head q + length a
  head_length h s a p = piece_length (g.head q) (λ b. g.reads q b h) s a p

  body_length : (x : X) (m : HeadReading V) (s a : List ℕ) → HasBody g q x m s a → length s ≡ g.size x + length a
  body_length x m s a p = piece_length (g.size x) (λ b. g.means q x b m) s a p

  -- ---- after a good head
  behind_only : (x : X) (s : List ℕ) (v w : Verdict V) → BehindSays g q x s v → BehindSays g q x s w → v ≡ w
  behind_only x s (whole v a) (whole w c) p r = let e = body_same x (good v) (good w) s a c p r in let is : v ≡ w = good_same v w e.0 in rw (is, e.1) refl
  behind_only x s (whole v a) (lacks m) p r = absurd (omega (arith, r.0, r.1, body_length x (good v) s a p))
  behind_only x s (whole v a) (faulty f) p r = let e = body_same x (good v) (bad f) s a r.0 p r.1 in let no : good v ≡ bad f = e.0 in absurd cc
  behind_only x s (lacks n) (whole w c) p r = absurd (omega (arith, p.0, p.1, body_length x (good w) s c r))
  behind_only x s (lacks n) (lacks m) p r = let e : n ≡ m = omega (arith, p.1, r.1) in rw e refl
  behind_only x s (lacks n) (faulty f) p r = absurd (omega (arith, p.0, p.1, body_length x (bad f) s r.0 r.1))
  behind_only x s (faulty f) (whole w c) p r = let e = body_same x (good w) (bad f) s c p.0 r p.1 in let no : good w ≡ bad f = e.0 in absurd cc
  behind_only x s (faulty f) (lacks m) p r = absurd (omega (arith, r.0, r.1, body_length x (bad f) s p.0 p.1))
  behind_only x s (faulty f) (faulty h) p r = let e = body_same x (bad f) (bad h) s p.0 r.0 p.1 r.1 in let no : bad f ≡ bad h = e.0 in let is : f ≡ h = cc in rw is refl

  body_read : (x : X) (s bytes rest : List ℕ) → s ≡ bytes ++ rest → length bytes ≡ g.size x → (m : HeadReading V) → g.means q x bytes m → (v : Verdict V) × BehindSays g q x s v
  body_read x s bytes rest text count (good v) means = (whole v rest, record { bytes = bytes; text = text; length_is = count; holds = means })
  body_read x s bytes rest text count (bad f) means = (faulty f, (rest, record { bytes = bytes; text = text; length_is = count; holds = means }))

  behind_there : (x : X) (s : List ℕ) → (v : Verdict V) × BehindSays g q x s v
  behind_there x s =
      elim (cases_lt (length s) (g.size x)) [
        | inl short ↦ (lacks (g.size x - length s), (omega (arith, short), omega (arith, short)))
        | inr long ↦
            let p = piece_there (g.size x) s long in
            let o = laws.bodies q x p.0 p.3 in
            body_read x s p.0 p.1 p.2 p.3 o.value o.holds
      ]

  -- ---- the whole
  short_length : (s : List ℕ) (v : Verdict V) → ShortSays g q s v → length s < g.head q
  short_length s (lacks n) p = omega (arith, p.0, p.1)
  short_length s (whole v a) p = absurd p
  short_length s (faulty f) p = absurd p

  short_only : (s : List ℕ) (v w : Verdict V) → ShortSays g q s v → ShortSays g q s w → v ≡ w
  short_only s (lacks n) (lacks m) p r = let e : n ≡ m = omega (arith, p.1, r.1) in rw e refl
  short_only s (lacks n) (whole w c) p r = absurd r
  short_only s (lacks n) (faulty f) p r = absurd r
  short_only s (whole v a) w p r = absurd p
  short_only s (faulty f) w p r = absurd p

  bad_head : (s : List ℕ) (v : Verdict V) → BadSays g q s v → (f : Fault) × (after : List ℕ) × (v ≡ faulty f) × HasHead g q (bad f) s after
  bad_head s (faulty f) p = (f, p.0, refl, p.1)
  bad_head s (whole v a) p = absurd p
  bad_head s (lacks n) p = absurd p

  bad_only : (s : List ℕ) (v w : Verdict V) → BadSays g q s v → BadSays g q s w → v ≡ w
  bad_only s v w p r =
      let a = bad_head s v p in
      let c = bad_head s w r in
      let e = head_same (bad a.0) (bad c.0) s a.1 c.1 a.3 c.3 in
      let no : bad a.0 ≡ bad c.0 = e.0 in
      let is : a.0 ≡ c.0 = cc in
      a.2 ∙ ap faulty is ∙ sym c.2

  bad_not_good : (s : List ℕ) (v : Verdict V) (x : X) (after : List ℕ) → BadSays g q s v → HasHead g q (good x) s after → ⊥
  bad_not_good s v x after p head =
      let a = bad_head s v p in
      let e = head_same (bad a.0) (good x) s a.1 after a.3 head in
      let no : bad a.0 ≡ good x = e.0 in
      absurd cc

  bad_long : (s : List ℕ) (v : Verdict V) → BadSays g q s v → g.head q ≤ length s
  bad_long s v p = let a = bad_head s v p in omega (arith, head_length (bad a.0) s a.1 a.3)

  headed_only : (s : List ℕ) (v w : Verdict V) → HeadedSays g q s v → HeadedSays g q s w → v ≡ w
  headed_only s v w (inl p) (inl r) = short_only s v w p r
  headed_only s v w (inl p) (inr (inl r)) = absurd (omega (arith, short_length s v p, bad_long s w r))
  headed_only s v w (inl p) (inr (inr r)) = absurd (omega (arith, short_length s v p, head_length (good r.0) s r.1 r.2))
  headed_only s v w (inr (inl p)) (inl r) = absurd (omega (arith, short_length s w r, bad_long s v p))
  headed_only s v w (inr (inl p)) (inr (inl r)) = bad_only s v w p r
  headed_only s v w (inr (inl p)) (inr (inr r)) = absurd (bad_not_good s v r.0 r.1 p r.2)
  headed_only s v w (inr (inr p)) (inl r) = absurd (omega (arith, short_length s w r, head_length (good p.0) s p.1 p.2))
  headed_only s v w (inr (inr p)) (inr (inl r)) = absurd (bad_not_good s w p.0 p.1 r p.2)
  headed_only s v w (inr (inr p)) (inr (inr r)) =
      let e = head_same (good p.0) (good r.0) s p.1 r.1 p.2 r.2 in
      let is : p.0 ≡ r.0 = good_same p.0 r.0 e.0 in
      let one : BehindSays g q r.0 p.1 v = subst (λ (x : X). BehindSays g q x p.1 v) is p.3 in
      let two : BehindSays g q r.0 r.1 v = subst (λ (t : List ℕ). BehindSays g q r.0 t v) e.1 one in
      behind_only r.0 r.1 v w two r.3

  head_read : (s bytes rest : List ℕ) → s ≡ bytes ++ rest → length bytes ≡ g.head q → (h : HeadReading X) → g.reads q bytes h → (v : Verdict V) × HeadedSays g q s v
  head_read s bytes rest text count (bad f) reads = (faulty f, inr (inl (rest, record { bytes = bytes; text = text; length_is = count; holds = reads })))
  head_read s bytes rest text count (good x) reads =
      let more = behind_there x rest in
      (more.0, inr (inr (x, rest, record { bytes = bytes; text = text; length_is = count; holds = reads }, more.1)))

  headed_there : (s : List ℕ) → (v : Verdict V) × HeadedSays g q s v
  headed_there s =
      elim (cases_lt (length s) (g.head q)) [
        | inl short ↦ (lacks (g.head q - length s), inl (omega (arith, short), omega (arith, short)))
        | inr long ↦
            let p = piece_there (g.head q) s long in
            let o = laws.heads q p.0 p.3 in
            head_read s p.0 p.1 p.2 p.3 o.value o.holds
      ]

  headed_one : (s : List ℕ) → ExactlyOne (HeadedSays g q s)
  headed_one s = let v = headed_there s in record { value = v.0; holds = v.1; only = λ w h. headed_only s w v.0 h v.1 }

  head_more : (h : HeadReading X) (s a more : List ℕ) → HasHead g q h s a → HasHead g q h (s ++ more) (a ++ more)
  head_more h s a more p = piece_more (g.head q) (λ b. g.reads q b h) s a more p

  body_more : (x : X) (m : HeadReading V) (s a more : List ℕ) → HasBody g q x m s a → HasBody g q x m (s ++ more) (a ++ more)
  body_more x m s a more p = piece_more (g.size x) (λ b. g.means q x b m) s a more p

  text_more : (s more rest : List ℕ) (v : V) → HeadedSays g q s (whole v rest) → HeadedSays g q (s ++ more) (whole v (rest ++ more))
  text_more s more rest v (inl p) = absurd p
  text_more s more rest v (inr (inl p)) = absurd p
  text_more s more rest v (inr (inr p)) = inr (inr (p.0, p.1 ++ more, head_more (good p.0) s p.1 more p.2, body_more p.0 (good v) p.1 rest more p.3))

  fault_more : (s more : List ℕ) (f : Fault) → HeadedSays g q s (faulty f) → HeadedSays g q (s ++ more) (faulty f)
  fault_more s more f (inl p) = absurd p
  fault_more s more f (inr (inl p)) = inr (inl (p.0 ++ more, head_more (bad f) s p.0 more p.1))
  fault_more s more f (inr (inr p)) = inr (inr (p.0, p.1 ++ more, head_more (good p.0) s p.1 more p.2, (p.3.0 ++ more, body_more p.0 (bad f) p.1 p.3.0 more p.3.1)))

  request_more : (s more : List ℕ) (n : ℕ) → length more < n → HeadedSays g q s (lacks n) → HeadedSays g q (s ++ more) (lacks (n - length more))
  request_more s more n fewer (inl p) = inl (omega (arith, fewer), omega (arith, fewer, p.1, length-append s more))
  request_more s more n fewer (inr (inl p)) = absurd p
  request_more s more n fewer (inr (inr p)) =
      inr (inr (p.0, p.1 ++ more, head_more (good p.0) s p.1 more p.2, (omega (arith, fewer), omega (arith, fewer, p.3.1, length-append p.1 more))))

  text_own : (s rest : List ℕ) (v : V) → HeadedSays g q s (whole v rest) → (t : List ℕ) × (s ≡ t ++ rest) × HeadedSays g q t (whole v [])
  text_own s rest v (inl p) = absurd p
  text_own s rest v (inr (inl p)) = absurd p
  text_own s rest v (inr (inr p)) =
      let h = p.2 in
      let b = p.3 in (
        h.bytes ++ b.bytes,
        h.text ∙ ap (λ (t : List ℕ). h.bytes ++ t) b.text ∙ sym (append_assoc h.bytes b.bytes rest),
        inr (inr (
          p.0,
          b.bytes,
          record { bytes = h.bytes; text = refl; length_is = h.length_is; holds = h.holds },
          record { bytes = b.bytes; text = sym (append-nil b.bytes); length_is = b.length_is; holds = b.holds },
        )),
      )

  asks_some : (s : List ℕ) (n : ℕ) → HeadedSays g q s (lacks n) → 0 < n
  asks_some s n (inl p) = p.0
  asks_some s n (inr (inl p)) = absurd p
  asks_some s n (inr (inr p)) = p.3.0

  asks_last : (s more : List ℕ) (n m : ℕ) → g.head q ≤ length s → HeadedSays g q s (lacks n) → length more ≡ n → HeadedSays g q (s ++ more) (lacks m) → ⊥
  asks_last s more n m long (inl p) count r = omega (arith, long, p.0, p.1)
  asks_last s more n m long (inr (inl p)) count r = absurd p
  asks_last s more n m long (inr (inr p)) count (inl r) = omega (arith, long, r.0, r.1, length-append s more)
  asks_last s more n m long (inr (inr p)) count (inr (inl r)) = absurd r
  asks_last s more n m long (inr (inr p)) count (inr (inr r)) =
      let e = head_same (good p.0) (good r.0) (s ++ more) (p.1 ++ more) r.1 (head_more (good p.0) s p.1 more p.2) r.2 in
      let is : p.0 ≡ r.0 = good_same p.0 r.0 e.0 in
      omega (arith, p.3.1, r.3.0, r.3.1, count, ap length e.1, length-append p.1 more, ap g.size is)

pub headed_lawful : {S X V : Type 0} (g : Headed S X V) → IsHeaded g → IsLawful (headed g)
headed_lawful g laws = record {
  one = λ q s. headed_one g laws q s;
  stable = λ q. record { text = text_more g laws q; fault = fault_more g laws q; request = request_more g laws q };
  own = λ q s rest v x. text_own g laws q s rest v x;
  some = laws.some;
  asks = λ q s n x. asks_some g laws q s n x;
  short = λ q s n sum some. inl (some, sum);
  last = λ q s more n m long x count y. asks_last g laws q s more n m long x count y;
}
