-- Lemmas on numbers that are written with leading zeros.
use Rattle.std.specs.Prelude.{◌≡◌, ◌^◌, ◌-◌, ◌++◌, ℕ, [], false, length, replicate}
use Rattle.std.proofs.Common.{ap, arith, ◌∙◌}
use Rattle.std.proofs.lemmas.List.{append-nil}
use Rattle.std.specs.Fmt.{decimal, padded_integral, format_spec, char_count}
use Rattle.pcapfile_shown.specs.Texts.{zero_padded}

-- Leading zeros and digits with nothing around them are the padded number.
padded_to : (width n : ℕ) → replicate (width - length (decimal n) - 0 - 0) 48 ++ (decimal n ++ []) ≡ zero_padded width n
padded_to width n =
    let same : width - length (decimal n) - 0 - 0 ≡ width - length (decimal n) = omega arith in
    ap (λ k. replicate k 48 ++ (decimal n ++ [])) same ∙ ap (λ digits. replicate (width - length (decimal n)) 48 ++ digits) (append-nil (decimal n))

pub padded_nine : (n : ℕ) → padded_integral (format_spec 32 0 4 9 (2 ^ 64 - 1)) false [] (decimal n) ≡ zero_padded 9 n
unfolding padded_integral char_count
padded_nine n = padded_to 9 n

pub padded_two : (n : ℕ) → padded_integral (format_spec 32 0 4 2 (2 ^ 64 - 1)) false [] (decimal n) ≡ zero_padded 2 n
unfolding padded_integral char_count
padded_two n = padded_to 2 n
