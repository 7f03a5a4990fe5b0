-- This file proves that digits can be written two at a time, and the last eight as four and four.
use Rattle.std.proofs.Common.{◌≡◌, ◌∙◌, ℕ, zero, suc, ◌+◌, ◌-◌, ◌*◌, ◌/◌, ◌%◌, ◌^◌, ◌<◌, ◌≤◌, inl, inr, Bool, true, ◌&&◌, T, eqb, eqb→eq, [], ◌∷◌, ◌++◌, get_or, length, replicate, ap, sym, refl, arith, eq-zero-or-pos, append_assoc, length-append}
use lib.Ieee.Fits.{and_l, and_r}
use Rattle.std.specs.Fmt.{decimal}
use Rattle.std.proofs.lemmas.Fmt.{decimal_digit, decimal_step, decimal_nonempty}
use Rattle.itoa.proofs.Decimal.{decimal_four, length_four}
use Rattle.std.proofs.lemmas.List.{replicate_more}
use Rattle.pcap_program.specs.declared.line.TheConstants.{TWO_DIGITS}
use Rattle.pcap_program.specs.Digits.{last_digits, nine_digits}

-- The table has the digits of each number below this one.
abbrev are_digits : ℕ → Bool
are_digits zero = true
are_digits (suc p) = (eqb (get_or TWO_DIGITS (p * 2) 0) (48 + p / 10 % 10) && eqb (get_or TWO_DIGITS (p * 2 + 1) 0) (48 + p % 10)) && are_digits p

are_below : (n p : ℕ) → T (are_digits n) → p < n → (get_or TWO_DIGITS (p * 2) 0 ≡ 48 + p / 10 % 10) × (get_or TWO_DIGITS (p * 2 + 1) 0 ≡ 48 + p % 10)
are_below zero p are h = absurd (omega arith)
are_below (suc n) p are h =
    elim (eq-zero-or-pos (n - p)) [
      | inl z ↦
          let same : p ≡ n = omega arith in
          let both = and_l _ (are_digits n) are in
          rw same (eqb→eq _ _ (and_l _ _ both), eqb→eq _ _ (and_r _ _ both))
      | inr g ↦ are_below n p (and_r _ (are_digits n) are) (omega arith)
    ]

-- The digits of a number below a hundred, in the table.
pub digits_at : (p : ℕ) → p < 100 → (get_or TWO_DIGITS (p * 2) 0 ≡ 48 + p / 10 % 10) × (get_or TWO_DIGITS (p * 2 + 1) 0 ≡ 48 + p % 10)
digits_at p h = are_below 100 p tt h

-- The last digits of zero are zeros.
zeros : (k : ℕ) → last_digits k 0 ≡ replicate k 48
zeros zero = refl
zeros (suc k) =
    let more : k + 1 ≡ suc k = omega arith in
    ap (λ ds. ds ++ 48 ∷ []) (zeros k) ∙ replicate_more k 48 ∙ ap (λ n. replicate n 48) more

-- The digits of a number with one digit.
one : (k n : ℕ) → n / 10 ≡ 0 → last_digits (suc k) n ≡ replicate (suc k - length (decimal n)) 48 ++ decimal n
one k n none =
    let same : n % 10 ≡ n = omega arith in
    let digit = decimal_digit n (omega arith) in
    let zeros_before : suc k - length (decimal n) ≡ k = omega (arith, ap length digit) in
    rw (zeros_before, digit, none, same, zeros k) refl

-- The last k + 1 digits of a number with at most k + 1 digits are its digits, padded with zeros.
padded : (k n : ℕ) → n < 10 ^ suc k → n < 2 ^ 64 → last_digits (suc k) n ≡ replicate (suc k - length (decimal n)) 48 ++ decimal n
padded zero n fits small = one zero n (omega arith)
padded (suc k) n fits small =
    elim (eq-zero-or-pos (n / 10)) [
      | inl none ↦ one (suc k) n none
      | inr some ↦
          let step = decimal_step n (omega arith) small in
          let long : length (decimal n) ≡ length (decimal (n / 10)) + 1 = ap length step ∙ length-append _ _ in
          let zeros_before : suc (suc k) - length (decimal n) ≡ suc k - length (decimal (n / 10)) = omega (arith, long) in
          rw (zeros_before, step, padded k (n / 10) (omega arith) (omega arith))
          (append_assoc (replicate (suc k - length (decimal (n / 10))) 48) (decimal (n / 10)) ((48 + n % 10) ∷ []))
    ]

-- The last four digits of a number are those of its remainder by ten thousand.
four_kept : (n : ℕ) → last_digits 4 n ≡ last_digits 4 (n % 10000)
four_kept n =
    let a : n % 10000 / 10 / 10 / 10 % 10 ≡ n / 10 / 10 / 10 % 10 = omega arith in
    let b : n % 10000 / 10 / 10 % 10 ≡ n / 10 / 10 % 10 = omega arith in
    let c : n % 10000 / 10 % 10 ≡ n / 10 % 10 = omega arith in
    let d : n % 10000 % 10 ≡ n % 10 = omega arith in
    rw (a, b, c, d) refl

-- The digits of a longer number are those of its quotient by ten thousand and then its last four.
four_more : (n : ℕ) → 10000 ≤ n → n < 2 ^ 64 → decimal n ≡ decimal (n / 10000) ++ last_digits 4 (n % 10000)
four_more n more small =
    let a : n % 10000 / 100 / 10 ≡ n % 10000 / 10 / 10 / 10 % 10 = omega arith in
    let b : n % 10000 / 100 % 10 ≡ n % 10000 / 10 / 10 % 10 = omega arith in
    let c : n % 10000 % 100 / 10 ≡ n % 10000 / 10 % 10 = omega arith in
    let d : n % 10000 % 100 % 10 ≡ n % 10000 % 10 = omega arith in
    decimal_four n more small ∙ (λ i. decimal (n / 10000) ++ ((48 + a i) ∷ (48 + b i) ∷ (48 + c i) ∷ (48 + d i) ∷ []))

-- A number with nine digits or more isn't padded.
pub nine_long : (n : ℕ) → 100000000 ≤ n → n < 2 ^ 32 → nine_digits n ≡ decimal n
nine_long n long small =
    let most : length (decimal n) ≡ length (decimal (n / 10000)) + 4 = length_four n (omega arith) (omega arith) in
    let more : length (decimal (n / 10000)) ≡ length (decimal (n / 10000 / 10000)) + 4 = length_four (n / 10000) (omega arith) (omega arith) in
    let some : 0 < length (decimal (n / 10000 / 10000)) = decimal_nonempty (n / 10000 / 10000) (omega arith) in
    let none : 9 - length (decimal n) ≡ 0 = omega (arith, most, more, some) in
    rw none refl

-- A number with eight digits or fewer, as nine digits.
nine_short : (n : ℕ) → n < 100000000 → nine_digits n ≡ decimal (n / 10000 / 10000) ++ (last_digits 4 (n / 10000) ++ last_digits 4 n)
nine_short n short =
    let none : n / 10000 / 10000 ≡ 0 = omega arith in
    let four : n / 10 / 10 / 10 / 10 ≡ n / 10000 = omega arith in
    let eight : n / 10000 / 10 / 10 / 10 / 10 ≡ 0 = omega arith in
    sym (padded 8 n (omega arith) (omega arith)) ∙ rw (none, decimal_digit 0 (omega arith), four, eight) refl

-- Nine digits or more are the digits before the last eight, and then four and four.
pub nine_split : (n : ℕ) → n < 2 ^ 32 → nine_digits n ≡ decimal (n / 10000 / 10000) ++ (last_digits 4 (n / 10000 % 10000) ++ last_digits 4 (n % 10000))
nine_split n small =
    elim (eq-zero-or-pos (n / 100000000)) [
      | inl none ↦ nine_short n (omega arith) ∙ (λ i. decimal (n / 10000 / 10000) ++ (four_kept (n / 10000) i ++ four_kept n i))
      | inr some ↦
          nine_long n (omega arith) small ∙ four_more n (omega arith) (omega arith)
          ∙ ap (λ ds. ds ++ last_digits 4 (n % 10000)) (four_more (n / 10000) (omega arith) (omega arith))
          ∙ append_assoc (decimal (n / 10000 / 10000)) (last_digits 4 (n / 10000 % 10000)) (last_digits 4 (n % 10000))
    ]
