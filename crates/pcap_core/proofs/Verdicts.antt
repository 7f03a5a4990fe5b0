-- If each part has exactly one verdict, the whole has exactly one verdict.
use Rattle.std.proofs.Common.{◌≡◌, ℕ, zero, suc, ◌<◌, List, [], ◌∷◌, ◌++◌, length, refl, sym, ap, subst, ◌∙◌, arith, append_assoc, inl, inr}
use Rattle.std.specs.Prelude.{◌⊎◌}
use Rattle.pcap_core.specs.Answer.{Verdict, whole, lacks, faulty, Made}
use Rattle.pcap_core.specs.Faults.{Fault}
use Rattle.pcap_core.specs.Laws.{ExactlyOne}
use Rattle.pcap_core.specs.Padded.{Chain}
use Rattle.pcap_core.proofs.Padded.{chain_more}

-- a verdict with a value has one value and one rest
pub whole_same : {V : Type 0} (v w : V) (a b : List ℕ) → whole v a ≡ whole w b → (v ≡ w) × (a ≡ b)
whole_same v w a b e = (cc, cc)

-- equivalent conditions have the same law
pub one_moved : {X : Type 0} (P Q : X → Type 0) → ((x : X) → P x → Q x) → ((x : X) → Q x → P x) → ExactlyOne Q → ExactlyOne P
one_moved P Q to from one = record { value = one.value; holds = from one.value one.holds; only = λ other h. one.only other (to other h) }

-- the verdict of the first part, or if it is whole, the verdict of the next part
abbrev pub Then : {V W : Type 0} → (Verdict V → Type 0) → (V → List ℕ → Verdict W → Type 0) → Verdict W → Type 0
Then {V = V} First Next (whole w rest) = (v : V) × (after : List ℕ) × First (whole v after) × Next v after (whole w rest)
Then {V = V} First Next (lacks n) = First (lacks n) ⊎ ((v : V) × (after : List ℕ) × First (whole v after) × Next v after (lacks n))
Then {V = V} First Next (faulty f) = First (faulty f) ⊎ ((v : V) × (after : List ℕ) × First (whole v after) × Next v after (faulty f))

abbrev made : {V W : Type 0} → (V → W) → Verdict V → Verdict W
made make (whole v rest) = whole (make v) rest
made make (lacks n) = lacks n
made make (faulty f) = faulty f

pub whole_no_fault : {V : Type 0} (v : V) (a : List ℕ) (f : Fault) → whole v a ≡ faulty f → ⊥
whole_no_fault v a f e = absurd cc

pub fault_no_whole : {V : Type 0} (v : V) (a : List ℕ) (f : Fault) → faulty f ≡ whole v a → ⊥
fault_no_whole v a f e = absurd cc

whole_no_lack : {V : Type 0} (v : V) (a : List ℕ) (n : ℕ) → whole v a ≡ lacks n → ⊥
whole_no_lack v a n e = absurd cc

lack_no_whole : {V : Type 0} (v : V) (a : List ℕ) (n : ℕ) → lacks n ≡ whole v a → ⊥
lack_no_whole v a n e = absurd cc

lack_no_fault : {V : Type 0} (n : ℕ) (f : Fault) → ◌≡◌ {A = Verdict V} (lacks n) (faulty f) → ⊥
lack_no_fault n f e = absurd cc

fault_no_lack : {V : Type 0} (n : ℕ) (f : Fault) → ◌≡◌ {A = Verdict V} (faulty f) (lacks n) → ⊥
fault_no_lack n f e = absurd cc

lacks_in : {V W : Type 0} (n m : ℕ) → ◌≡◌ {A = Verdict V} (lacks n) (lacks m) → ◌≡◌ {A = Verdict W} (lacks n) (lacks m)
lacks_in n m e = let same : n ≡ m = cc in rw same refl

faulty_in : {V W : Type 0} (f g : Fault) → ◌≡◌ {A = Verdict V} (faulty f) (faulty g) → ◌≡◌ {A = Verdict W} (faulty f) (faulty g)
faulty_in f g e = let same : f ≡ g = cc in rw same refl

made_there : {V W : Type 0} (make : V → W) (P : Verdict V → Type 0) (v : Verdict V) → P v → Made make P (made make v)
made_there make P (whole v rest) h = (v, refl, h)
made_there make P (lacks n) h = h
made_there make P (faulty f) h = h

made_only : {V W : Type 0} (make : V → W) (P : Verdict V → Type 0) (one : ExactlyOne P) (w : Verdict W) → Made make P w → w ≡ made make one.value
made_only {W = W} make P one (whole w rest) h = ap (λ (x : W). whole x rest) h.1 ∙ ap (made make) (one.only (whole h.0 rest) h.2)
made_only make P one (lacks n) h = ap (made make) (one.only (lacks n) h)
made_only make P one (faulty f) h = ap (made make) (one.only (faulty f) h)

pub one_made : {V W : Type 0} (make : V → W) (P : Verdict V → Type 0) → ExactlyOne P → ExactlyOne (Made make P)
one_made make P one = record { value = made make one.value; holds = made_there make P one.value one.holds; only = made_only make P one }

-- if the first part is known to have a fault
then_fault : {V W : Type 0} (First : Verdict V → Type 0) (Next : V → List ℕ → Verdict W → Type 0) (f : Fault) → First (faulty f) → ((other : Verdict V) → First other → other ≡ faulty f) → (w : Verdict W) → Then First Next w → w ≡ faulty f
then_fault First Next f h only (whole w rest) t = absurd (whole_no_fault t.0 t.1 f (only (whole t.0 t.1) t.2))
then_fault {V = V} First Next f h only (lacks n) (inl t) = absurd (lack_no_fault {V = V} n f (only (lacks n) t))
then_fault First Next f h only (lacks n) (inr t) = absurd (whole_no_fault t.0 t.1 f (only (whole t.0 t.1) t.2))
then_fault {V = V} {W = W} First Next f h only (faulty g) (inl t) = faulty_in {V = V} {W = W} g f (only (faulty g) t)
then_fault First Next f h only (faulty g) (inr t) = absurd (whole_no_fault t.0 t.1 f (only (whole t.0 t.1) t.2))

-- if the first part is known to be truncated
then_lack : {V W : Type 0} (First : Verdict V → Type 0) (Next : V → List ℕ → Verdict W → Type 0) (n : ℕ) → First (lacks n) → ((other : Verdict V) → First other → other ≡ lacks n) → (w : Verdict W) → Then First Next w → w ≡ lacks n
then_lack First Next n h only (whole w rest) t = absurd (whole_no_lack t.0 t.1 n (only (whole t.0 t.1) t.2))
then_lack {V = V} {W = W} First Next n h only (lacks m) (inl t) = lacks_in {V = V} {W = W} m n (only (lacks m) t)
then_lack First Next n h only (lacks m) (inr t) = absurd (whole_no_lack t.0 t.1 n (only (whole t.0 t.1) t.2))
then_lack {V = V} First Next n h only (faulty g) (inl t) = absurd (fault_no_lack {V = V} n g (only (faulty g) t))
then_lack First Next n h only (faulty g) (inr t) = absurd (whole_no_lack t.0 t.1 n (only (whole t.0 t.1) t.2))

-- if the first part is known to be whole
then_whole : {V W : Type 0} (First : Verdict V → Type 0) (Next : V → List ℕ → Verdict W → Type 0) (v : V) (after : List ℕ) → ((other : Verdict V) → First other → other ≡ whole v after) → (w : Verdict W) → Then First Next w → Next v after w
then_whole {V = V} First Next v after only (whole w rest) t =
    let e = whole_same t.0 v t.1 after (only (whole t.0 t.1) t.2) in
    subst (λ (x : V). Next x after (whole w rest)) e.0 (subst (λ (a : List ℕ). Next t.0 a (whole w rest)) e.1 t.3)
then_whole First Next v after only (lacks n) (inl t) = absurd (lack_no_whole v after n (only (lacks n) t))
then_whole {V = V} First Next v after only (lacks n) (inr t) =
    let e = whole_same t.0 v t.1 after (only (whole t.0 t.1) t.2) in
    subst (λ (x : V). Next x after (lacks n)) e.0 (subst (λ (a : List ℕ). Next t.0 a (lacks n)) e.1 t.3)
then_whole First Next v after only (faulty f) (inl t) = absurd (fault_no_whole v after f (only (faulty f) t))
then_whole {V = V} First Next v after only (faulty f) (inr t) =
    let e = whole_same t.0 v t.1 after (only (whole t.0 t.1) t.2) in
    subst (λ (x : V). Next x after (faulty f)) e.0 (subst (λ (a : List ℕ). Next t.0 a (faulty f)) e.1 t.3)

to_then : {V W : Type 0} (First : Verdict V → Type 0) (Next : V → List ℕ → Verdict W → Type 0) (v : V) (after : List ℕ) → First (whole v after) → (w : Verdict W) → Next v after w → Then First Next w
to_then First Next v after h (whole w rest) n = (v, after, h, n)
to_then First Next v after h (lacks k) n = inr (v, after, h, n)
to_then First Next v after h (faulty f) n = inr (v, after, h, n)

then_cases : {V W : Type 0} (First : Verdict V → Type 0) (Next : V → List ℕ → Verdict W → Type 0) (first : Verdict V) → First first → ((other : Verdict V) → First other → other ≡ first) → ((v : V) (after : List ℕ) → First (whole v after) → ExactlyOne (Next v after)) → ExactlyOne (Then First Next)
then_cases First Next (whole v after) h only next =
    let n = next v after h in
    record { value = n.value; holds = to_then First Next v after h n.value n.holds; only = λ w t. n.only w (then_whole First Next v after only w t) }
then_cases First Next (lacks n) h only next = record { value = lacks n; holds = inl h; only = then_lack First Next n h only }
then_cases First Next (faulty f) h only next = record { value = faulty f; holds = inl h; only = then_fault First Next f h only }

pub one_then : {V W : Type 0} (First : Verdict V → Type 0) (Next : V → List ℕ → Verdict W → Type 0) → ExactlyOne First → ((v : V) (after : List ℕ) → First (whole v after) → ExactlyOne (Next v after)) → ExactlyOne (Then First Next)
one_then First Next one next = then_cases First Next one.value one.holds one.only next

-- items, followed by what stops them; this may depend on the items
abbrev pub Stopped : {V W : Type 0} → (V → List ℕ → List ℕ → Type 0) → (List V → List ℕ → Verdict W → Type 0) → List ℕ → Verdict W → Type 0
Stopped {V = V} IsItem Closes s w = (good : List V) × (bad : List ℕ) × Chain IsItem good s bad × Closes good bad w

-- what is known about items and about what stops them
pub record IsMany {V W : Type 0} (IsItem : V → List ℕ → List ℕ → Type 0) (Closes : List V → List ℕ → Verdict W → Type 0) : Type 0 where
  pub item_same : (v w : V) (s a b : List ℕ) → IsItem v s a → IsItem w s b → (v ≡ w) × (a ≡ b)
  pub item_shorter : (v : V) (s a : List ℕ) → IsItem v s a → length a < length s
  pub stop_same : (good : List V) (s : List ℕ) (w w' : Verdict W) → Closes good s w → Closes good s w' → w' ≡ w
  pub stop_no_item : (good : List V) (s : List ℕ) (w : Verdict W) (v : V) (a : List ℕ) → Closes good s w → IsItem v s a → ⊥
  pub one_of_both : (good : List V) (s : List ℕ) → ((w : Verdict W) × Closes good s w) ⊎ ((v : V) × (a : List ℕ) × IsItem v s a)

stopped_same : {V W : Type 0} (IsItem : V → List ℕ → List ℕ → Type 0) (Closes : List V → List ℕ → Verdict W → Type 0) → IsMany IsItem Closes → (before xs ys : List V) (s m n : List ℕ) (w w' : Verdict W)
    → Chain IsItem xs s m → Chain IsItem ys s n → Closes (before ++ xs) m w → Closes (before ++ ys) n w' → w' ≡ w
stopped_same IsItem Closes many before [] [] s m n w w' c d x y =
    many.stop_same (before ++ []) s w w' (subst (λ (t : List ℕ). Closes (before ++ []) t w) (sym c) x) (subst (λ (t : List ℕ). Closes (before ++ []) t w') (sym d) y)
stopped_same IsItem Closes many before [] (q ∷ ys) s m n w w' c d x y =
    absurd (many.stop_no_item (before ++ []) s w q d.0 (subst (λ (t : List ℕ). Closes (before ++ []) t w) (sym c) x) d.1)
stopped_same IsItem Closes many before (p ∷ xs) [] s m n w w' c d x y =
    absurd (many.stop_no_item (before ++ []) s w' p c.0 (subst (λ (t : List ℕ). Closes (before ++ []) t w') (sym d) y) c.1)
stopped_same {V = V} IsItem Closes many before (p ∷ xs) (q ∷ ys) s m n w w' c d x y =
    let e = many.item_same p q s c.0 d.0 c.1 d.1 in
    let x' : Closes ((before ++ p ∷ []) ++ xs) m w = subst (λ (g : List V). Closes g m w) (sym (append_assoc before (p ∷ []) xs)) x in
    let y1 : Closes ((before ++ q ∷ []) ++ ys) n w' = subst (λ (g : List V). Closes g n w') (sym (append_assoc before (q ∷ []) ys)) y in
    let y' : Closes ((before ++ p ∷ []) ++ ys) n w' = subst (λ (v : V). Closes ((before ++ v ∷ []) ++ ys) n w') (sym e.0) y1 in
    stopped_same IsItem Closes many (before ++ p ∷ []) xs ys d.0 m n w w' (subst (λ (t : List ℕ). Chain IsItem xs t m) e.1 c.2) d.2 x' y'

stopped_there : {V W : Type 0} (IsItem : V → List ℕ → List ℕ → Type 0) (Closes : List V → List ℕ → Verdict W → Type 0) → IsMany IsItem Closes → (fuel : ℕ) (good : List V) (s bad : List ℕ) → length bad < fuel → Chain IsItem good s bad → (w : Verdict W) × Stopped IsItem Closes s w
stopped_there IsItem Closes many zero good s bad lt are = absurd (omega arith)
stopped_there IsItem Closes many (suc fuel) good s bad lt are =
    elim (many.one_of_both good bad) [
      | inl stop ↦ (stop.0, (good, bad, are, stop.1))
      | inr item ↦
          let less = many.item_shorter item.0 bad item.1 item.2 in
          stopped_there IsItem Closes many fuel (good ++ item.0 ∷ []) s item.1 (omega arith) (chain_more IsItem good s bad item.1 item.0 are item.2)
    ]

pub one_stopped : {V W : Type 0} (IsItem : V → List ℕ → List ℕ → Type 0) (Closes : List V → List ℕ → Verdict W → Type 0) → IsMany IsItem Closes → (s : List ℕ) → ExactlyOne (Stopped IsItem Closes s)
one_stopped IsItem Closes many s =
    let v = stopped_there IsItem Closes many (suc (length s)) [] s s (omega arith) refl in
    record { value = v.0; holds = v.1; only = λ w h. stopped_same IsItem Closes many [] v.1.0 h.0 s v.1.1 h.1 v.0 w v.1.2 h.2 v.1.3 h.3 }
