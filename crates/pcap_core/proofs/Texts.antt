-- Two ways to split bytes are equal, and a number has one reading.
use Rattle.std.proofs.Common.{◌≡◌, ℕ, ◌+◌, List, [], ◌∷◌, ◌++◌, length, take, drop, refl, sym, ap, ◌∙◌, arith, append_assoc}
use Rattle.std.specs.Prelude.{All}
use Rattle.std.proofs.lemmas.List.{length-append}
use Rattle.std.proofs.lemmas.List.Elements.{All-nil, All-cons, All-head, All-tail}
use Rattle.std.proofs.Math.Seq.{take-append_seam, drop-append_seam}
use Rattle.pcap_core.specs.Answer.{Number}

-- two ways to split a list at the same place are equal
pub split_same : {A : Type 0} (a x b y : List A) → length a ≡ length b → a ++ x ≡ b ++ y → (a ≡ b) × (x ≡ y)
split_same [] x [] y len e = (refl, e)
split_same [] x (c ∷ b) y len e = absurd (omega (arith, len))
split_same (c ∷ a) x [] y len e = absurd (omega (arith, len))
split_same (c ∷ a) x (d ∷ b) y len e =
    let tails : a ++ x ≡ b ++ y = cc in
    let first : c ≡ d = cc in
    let shorter : length a ≡ length b = omega (arith, len) in
    let r = split_same a x b y shorter tails in
    (cc, r.1)

-- the first n bytes are the front if the bytes are the front followed by a rest
pub front_of : (bytes front rest : List ℕ) (n : ℕ) → bytes ≡ front ++ rest → n + length rest ≡ length bytes → take n bytes ≡ front
front_of bytes front rest n split count =
    let long : n ≡ length front = omega (arith, count, ap length split, length-append front rest) in
    rw (long, split) (take-append_seam front rest)

pub rest_of : (bytes front rest : List ℕ) (n : ℕ) → bytes ≡ front ++ rest → n + length rest ≡ length bytes → drop n bytes ≡ rest
rest_of bytes front rest n split count =
    let long : n ≡ length front = omega (arith, count, ap length split, length-append front rest) in
    rw (long, split) (drop-append_seam front rest)

-- what holds of all elements holds of the first ones
pub front_all : {X : Type 0} (P : X → Type 0) (xs ys : List X) → All P (xs ++ ys) → All P xs
front_all P [] ys all = All-nil P
front_all P (x ∷ xs) ys all = All-cons P x xs (All-head P x (xs ++ ys) all) (front_all P xs ys (All-tail P x (xs ++ ys) all))

module _ (order : ℕ → List ℕ → ℕ) where
  pub number_same : (w n m : ℕ) (s a b : List ℕ) → Number order w n s a → Number order w m s b → (n ≡ m) × (a ≡ b)
  number_same w n m s a b p q =
      let lens : length p.bytes ≡ length q.bytes = p.length_is ∙ sym q.length_is in
      let r = split_same p.bytes a q.bytes b lens (sym p.text ∙ q.text) in
      (sym p.value ∙ ap (order w) r.0 ∙ q.value, r.1)

  -- a number has as many bytes as its width
  pub number_length : (w n : ℕ) (s a : List ℕ) → Number order w n s a → length s ≡ w + length a
  number_length w n s a p = ap length p.text ∙ length-append p.bytes a ∙ ap (λ k. k + length a) p.length_is

-- five lists that follow one another, joined
pub joined : (s b1 a1 b2 a2 b3 a3 b4 a4 b5 rest : List ℕ) → s ≡ b1 ++ a1 → a1 ≡ b2 ++ a2 → a2 ≡ b3 ++ a3 → a3 ≡ b4 ++ a4 → a4 ≡ b5 ++ rest → s ≡ (b1 ++ (b2 ++ (b3 ++ (b4 ++ b5)))) ++ rest
joined s b1 a1 b2 a2 b3 a3 b4 a4 b5 rest e1 e2 e3 e4 e5 = rw (e1, e2, e3, e4, e5) (simp append_assoc)
