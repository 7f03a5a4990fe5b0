-- This file proves that the digits computed in fixed point are right.
use Rattle.std.proofs.Common.{◌≡◌, ◌∙◌, ℕ, ◌+◌, ◌*◌, ◌/◌, ◌%◌, ◌^◌, ◌<◌, ◌++◌, refl, arith}
use Rattle.std.specs.Fmt.{decimal}
use Rattle.pcap_program.specs.Digits.{last_digits, nine_digits}
use Rattle.pcap_program.proofs.Digits.{nine_split}

-- A hundred times the fraction of a number in fixed point.
abbrev pub next : ℕ → ℕ
next x = x % 2 ^ 57 * 100

-- The hundred-millionths of a number in fixed point.
abbrev pub first : ℕ → ℕ
first n = n * 1441151881

-- If x is r over a power of ten in fixed point, too large by less than its last digit: its whole part, and the next number.
eight_left : (r m x : ℕ) → 10 ^ 8 * x ≡ r * 2 ^ 57 + m → m < 2 ^ 57 → (x / 2 ^ 57 ≡ r / 10 ^ 8) × (10 ^ 6 * next x ≡ (r % 10 ^ 8) * 2 ^ 57 + m)
eight_left r m x e small = (omega (arith, e, small), omega (arith, e, small))

six_left : (r m x : ℕ) → 10 ^ 6 * x ≡ r * 2 ^ 57 + m → m < 2 ^ 57 → (x / 2 ^ 57 ≡ r / 10 ^ 6) × (10 ^ 4 * next x ≡ (r % 10 ^ 6) * 2 ^ 57 + m)
six_left r m x e small = (omega (arith, e, small), omega (arith, e, small))

four_left : (r m x : ℕ) → 10 ^ 4 * x ≡ r * 2 ^ 57 + m → m < 2 ^ 57 → (x / 2 ^ 57 ≡ r / 10 ^ 4) × (100 * next x ≡ (r % 10 ^ 4) * 2 ^ 57 + m)
four_left r m x e small = (omega (arith, e, small), omega (arith, e, small))

two_left : (r m x : ℕ) → 100 * x ≡ r * 2 ^ 57 + m → m < 2 ^ 57 → (x / 2 ^ 57 ≡ r / 100) × (next x ≡ (r % 100) * 2 ^ 57 + m)
two_left r m x e small = (omega (arith, e, small), omega (arith, e, small))

none_left : (r m x : ℕ) → x ≡ r * 2 ^ 57 + m → m < 2 ^ 57 → x / 2 ^ 57 ≡ r
none_left r m x e small = omega (arith, e, small)

-- The whole parts of the numbers computed from n are its digits, two by two.
pub pairs_fixed : (n : ℕ) → n < 2 ^ 32
    → (first n / 2 ^ 57 ≡ n / 10000 / 10000) × (next (first n) / 2 ^ 57 ≡ n / 10000 % 10000 / 100)
    × (next (next (first n)) / 2 ^ 57 ≡ n / 10000 % 100) × (next (next (next (first n))) / 2 ^ 57 ≡ n % 10000 / 100)
    × (next (next (next (next (first n)))) / 2 ^ 57 ≡ n % 100)
pairs_fixed n small =
    let too_large : n * 24144128 < 2 ^ 57 = omega arith in
    let a = eight_left n (n * 24144128) (first n) (omega arith) too_large in
    let b = six_left (n % 10 ^ 8) (n * 24144128) (next (first n)) a.1 too_large in
    let c = four_left (n % 10 ^ 8 % 10 ^ 6) (n * 24144128) (next (next (first n))) b.1 too_large in
    let d = two_left (n % 10 ^ 8 % 10 ^ 6 % 10 ^ 4) (n * 24144128) (next (next (next (first n)))) c.1 too_large in
    let e = none_left (n % 10 ^ 8 % 10 ^ 6 % 10 ^ 4 % 100) (n * 24144128) (next (next (next (next (first n))))) d.1 too_large in
    (a.0 ∙ omega arith, b.0 ∙ omega arith, c.0 ∙ omega arith, d.0 ∙ omega arith, e ∙ omega arith)

-- Four digits are two and two.
four_pairs : (n : ℕ) → last_digits 4 (n % 10000) ≡ last_digits 2 (n % 10000 / 100) ++ last_digits 2 (n % 100)
four_pairs n =
    let a : n % 10000 / 10 / 10 / 10 % 10 ≡ n % 10000 / 100 / 10 % 10 = omega arith in
    let b : n % 10000 / 10 / 10 % 10 ≡ n % 10000 / 100 % 10 = omega arith in
    let c : n % 10000 / 10 % 10 ≡ n % 100 / 10 % 10 = omega arith in
    let d : n % 10000 % 10 ≡ n % 100 % 10 = omega arith in
    rw (a, b, c, d) refl

-- Nine digits or more are the digits before the last eight, and those two by two.
pub nine_pairs : (n : ℕ) → n < 2 ^ 32
    → nine_digits n ≡ decimal (n / 10000 / 10000) ++ (last_digits 2 (n / 10000 % 10000 / 100) ++ (last_digits 2 (n / 10000 % 100) ++ (last_digits 2 (n % 10000 / 100) ++ last_digits 2 (n % 100))))
nine_pairs n small = nine_split n small ∙ (λ i. decimal (n / 10000 / 10000) ++ (four_pairs (n / 10000) i ++ four_pairs n i))
