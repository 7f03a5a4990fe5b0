-- Either numbers follow one another or too few bytes are left, and the numbers are unique.
use Rattle.std.proofs.Common.{◌≡◌, ℕ, ◌+◌, ◌<◌, ◌≤◌, List, [], ◌∷◌, length, take, drop, refl, sym, ap, subst, ◌∙◌, arith, inl, inr}
use Rattle.std.specs.Prelude.{⊤}
use Rattle.std.proofs.lemmas.Bool.{cases_lt}
use Rattle.std.proofs.lemmas.List.{take-append-drop, length-take, length-append}
use Rattle.pcap_core.specs.Answer.{Order, Number, Verdict, whole, lacks, faulty}
use Rattle.pcap_core.specs.Faults.{Fault}
use Rattle.pcap_core.specs.Laws.{ExactlyOne}
use Rattle.pcap_core.proofs.Texts.{split_same, number_same, number_length}
use Rattle.pcap_core.specs.Padded.{Behind}
use Rattle.pcap_core.proofs.Padded.{behind_number, behind_both}

-- one number for each width
abbrev pub Values : List ℕ → Type 0
Values [] = ⊤
Values (w ∷ ws) = ℕ × Values ws

-- s is these numbers in these widths, followed by rest
abbrev pub Numbers : Order → (ws : List ℕ) → Values ws → List ℕ → List ℕ → Type 0
Numbers order [] ns s rest = s ≡ rest
Numbers order (w ∷ ws) ns s rest = (after : List ℕ) × Number order w ns.0 s after × Numbers order ws ns.1 after rest

abbrev pub total : List ℕ → ℕ
total [] = 0
total (w ∷ ws) = w + total ws

-- the numbers, or a fault if too few bytes are left
abbrev pub NumbersSay : Order → Fault → (ws : List ℕ) → List ℕ → Verdict (Values ws) → Type 0
NumbersSay order too_short ws s (whole ns rest) = Numbers order ws ns s rest
NumbersSay order too_short ws s (lacks n) = ⊥
NumbersSay order too_short ws s (faulty f) = (f ≡ too_short) × (length s < total ws)

pub number_there : (order : Order) (w : ℕ) (s : List ℕ) → w ≤ length s → (n : ℕ) × (a : List ℕ) × Number order w n s a
number_there order w s long = (order w (take w s), drop w s, record { bytes = take w s; text = sym (take-append-drop w s); length_is = omega (arith, length-take w s); value = refl })

pair_same : {A B : Type 0} (p q : A × B) → p.0 ≡ q.0 → p.1 ≡ q.1 → p ≡ q
pair_same {A = A} {B = B} p q a b = ap (λ (x : A). (x, p.1)) a ∙ ap (λ (y : B). (q.0, y)) b

pub numbers_same : (order : Order) (ws : List ℕ) (ns ms : Values ws) (s a b : List ℕ) → Numbers order ws ns s a → Numbers order ws ms s b → (ns ≡ ms) × (a ≡ b)
numbers_same order [] ns ms s a b h k = (refl, sym h ∙ k)
numbers_same order (w ∷ ws) ns ms s a b h k =
    let one = number_same order w ns.0 ms.0 s h.0 k.0 h.1 k.1 in
    let more = numbers_same order ws ns.1 ms.1 k.0 a b (subst (λ (x : List ℕ). Numbers order ws ns.1 x a) one.1 h.2) k.2 in
    (pair_same ns ms one.0 more.0, more.1)

pub numbers_length : (order : Order) (ws : List ℕ) (ns : Values ws) (s rest : List ℕ) → Numbers order ws ns s rest → length s ≡ total ws + length rest
numbers_length order [] ns s rest h = let l : length s ≡ length rest = ap length h in omega (arith, l)
numbers_length order (w ∷ ws) ns s rest h = omega (arith, number_length order w ns.0 s h.0 h.1, numbers_length order ws ns.1 h.0 rest h.2)

pub numbers_there : (order : Order) (ws s : List ℕ) → total ws ≤ length s → (ns : Values ws) × (rest : List ℕ) × Numbers order ws ns s rest
numbers_there order [] s long = (tt, s, refl)
numbers_there order (w ∷ ws) s long =
    let f = number_there order w s (omega arith) in
    let l = number_length order w f.0 s f.1 f.2 in
    let more = numbers_there order ws f.1 (omega (arith, l)) in
    ((f.0, more.0), more.1, (f.1, f.2, more.2))

numbers_only : (order : Order) (too_short : Fault) (ws s : List ℕ) (v w : Verdict (Values ws)) → NumbersSay order too_short ws s v → NumbersSay order too_short ws s w → w ≡ v
numbers_only order too_short ws s (whole ns a) (whole ms b) x y = let one = numbers_same order ws ms ns s b a y x in rw (one.0, one.1) refl
numbers_only order too_short ws s (whole ns a) (lacks m) x y = absurd y
numbers_only order too_short ws s (whole ns a) (faulty g) x y = absurd (omega (arith, numbers_length order ws ns s a x, y.1))
numbers_only order too_short ws s (lacks m) w x y = absurd x
numbers_only order too_short ws s (faulty f) (whole ms b) x y = absurd (omega (arith, numbers_length order ws ms s b y, x.1))
numbers_only order too_short ws s (faulty f) (lacks m) x y = absurd y
numbers_only order too_short ws s (faulty f) (faulty g) x y = rw (x.0, y.0) refl

pub numbers_one : (order : Order) (too_short : Fault) (ws s : List ℕ) → ExactlyOne (NumbersSay order too_short ws s)
numbers_one order too_short ws s =
    elim (cases_lt (length s) (total ws)) [
      | inl lt ↦ record { value = faulty too_short; holds = (refl, lt); only = λ w k. numbers_only order too_short ws s (faulty too_short) w (refl, lt) k }
      | inr long ↦
          let h = numbers_there order ws s long in
          record { value = whole h.0 h.1; holds = h.2; only = λ w k. numbers_only order too_short ws s (whole h.0 h.1) w h.2 k }
    ]

pub numbers_behind : (order : Order) (ws : List ℕ) (ns : Values ws) (s rest : List ℕ) → Numbers order ws ns s rest → Behind (total ws) s rest
numbers_behind order [] ns s rest h = record { bytes = []; text = h; length_is = refl }
numbers_behind order (w ∷ ws) ns s rest h = behind_both (behind_number h.1) (numbers_behind order ws ns.1 h.0 rest h.2)

-- the numbers in the bytes before this rest
pub numbers_at : (order : Order) (ws s rest : List ℕ) → Behind (total ws) s rest → (ns : Values ws) × Numbers order ws ns s rest
numbers_at order ws s rest behind =
    let long : total ws ≤ length s = omega (arith, ap length behind.text, length-append behind.bytes rest, behind.length_is) in
    let t = numbers_there order ws s long in
    let b = numbers_behind order ws t.0 s t.1 t.2 in
    let same = split_same b.bytes t.1 behind.bytes rest (b.length_is ∙ sym behind.length_is) (sym b.text ∙ behind.text) in
    (t.0, subst (λ (x : List ℕ). Numbers order ws t.0 s x) same.1 t.2)
