-- Either a value of known length and its padding are there or too few bytes are left, and the value is unique.
use Rattle.std.proofs.Common.{◌≡◌, ℕ, ◌+◌, ◌<◌, ◌≤◌, List, ◌++◌, length, take, drop, refl, sym, ap, ◌∙◌, arith, inl, inr}
use Rattle.std.proofs.lemmas.List.{length-take, length-append}
use Rattle.std.proofs.lemmas.Bool.{cases_lt}
use Rattle.pcap_core.specs.Answer.{Verdict, whole, lacks, faulty}
use Rattle.pcap_core.specs.Faults.{Fault}
use Rattle.pcap_core.specs.Laws.{ExactlyOne}
use Rattle.pcap_core.proofs.Texts.{split_same}
use Rattle.pcap_core.specs.Padded.{Padded, up_to_4}
use Rattle.pcap_core.proofs.Padded.{split_padded}

-- n bytes and their padding, or a fault if fewer bytes are left
abbrev pub PaddedSays : Fault → ℕ → List ℕ → Verdict (List ℕ) → Type 0
PaddedSays too_few n s (whole v rest) = Padded v s rest × (length v ≡ n)
PaddedSays too_few n s (lacks m) = ⊥
PaddedSays too_few n s (faulty f) = (f ≡ too_few) × (length s < up_to_4 n)

pub padded_same : (v w s a b : List ℕ) → length v ≡ length w → Padded v s a → Padded w s b → (v ≡ w) × (a ≡ b)
padded_same v w s a b len p q =
    let wide : length (v ++ p.padding) ≡ length (w ++ q.padding) = length-append v p.padding ∙ p.aligned ∙ ap up_to_4 len ∙ sym q.aligned ∙ sym (length-append w q.padding) in
    let all = split_same (v ++ p.padding) a (w ++ q.padding) b wide (sym p.text ∙ q.text) in
    ((split_same v p.padding w q.padding len all.0).0, all.1)

pub padded_length : (v s rest : List ℕ) → Padded v s rest → length s ≡ up_to_4 (length v) + length rest
padded_length v s rest p = ap length p.text ∙ length-append (v ++ p.padding) rest ∙ ap (λ (k : ℕ). k + length rest) (length-append v p.padding ∙ p.aligned)

pub no_short_padded : (v s rest : List ℕ) (n : ℕ) → Padded v s rest → length v ≡ n → length s < up_to_4 n → ⊥
no_short_padded v s rest n p is lt =
    let l : length s ≡ up_to_4 n + length rest = padded_length v s rest p ∙ ap (λ (k : ℕ). up_to_4 k + length rest) is in
    omega (arith, l, lt)

padded_only : (too_few : Fault) (n : ℕ) (s : List ℕ) (v w : Verdict (List ℕ)) → PaddedSays too_few n s v → PaddedSays too_few n s w → w ≡ v
padded_only too_few n s (whole p a) (whole q b) x y = let one = padded_same q p s b a (y.1 ∙ sym x.1) y.0 x.0 in rw (one.0, one.1) refl
padded_only too_few n s (whole p a) (lacks m) x y = absurd y
padded_only too_few n s (whole p a) (faulty g) x y = absurd (no_short_padded p s a n x.0 x.1 y.1)
padded_only too_few n s (lacks m) w x y = absurd x
padded_only too_few n s (faulty f) (whole q b) x y = absurd (no_short_padded q s b n y.0 y.1 x.1)
padded_only too_few n s (faulty f) (lacks m) x y = absurd y
padded_only too_few n s (faulty f) (faulty g) x y = rw (x.0, y.0) refl

padded_width : (n k : ℕ) (s : List ℕ) → k ≡ up_to_4 n → k ≤ length s → length (take n (take k s)) ≡ n
padded_width n k s is le = omega (arith, length-take n (take k s), length-take k s)

pub padded_one : (too_few : Fault) (n : ℕ) (s : List ℕ) → ExactlyOne (PaddedSays too_few n s)
padded_one too_few n s =
    elim (cases_lt (length s) (up_to_4 n)) [
      | inl lt ↦ record { value = faulty too_few; holds = (refl, lt); only = λ w k. padded_only too_few n s (faulty too_few) w (refl, lt) k }
      | inr long ↦
          let h : PaddedSays too_few n s (whole (take n (take (up_to_4 n) s)) (drop (up_to_4 n) s)) = (split_padded n (up_to_4 n) s refl long, padded_width n (up_to_4 n) s refl long) in
          record { value = whole (take n (take (up_to_4 n) s)) (drop (up_to_4 n) s); holds = h; only = λ w k. padded_only too_few n s (whole (take n (take (up_to_4 n) s)) (drop (up_to_4 n) s)) w h k }
    ]
