-- Lemmas on the sums of two lists of numbers, made one after another.
use Rattle.std.proofs.Common.{◌≡◌, ◌<◌, ◌+◌, ◌∙◌, ℕ, List, length, ap, sym, arith, inl, inr}
use Rattle.std.specs.Prelude.{slice_index, slice_set}
use Rattle.std.proofs.lemmas.Bool.{cases_eq}
use Rattle.std.proofs.lemmas.List.{get_or-set_other, get_or-set_same}
use Rattle.pcapfile_run.specs.Passing.{counted}

-- One more number is a sum.
pub sums_more : (one other old new : List ℕ) (class sum : ℕ) → class < 10 → length old ≡ 10 → new ≡ slice_set old class sum
    → sum ≡ counted (slice_index one class + slice_index other class)
    → ((k : ℕ) → k < class → slice_index old k ≡ counted (slice_index one k + slice_index other k))
    → (k : ℕ) → k < class + 1 → slice_index new k ≡ counted (slice_index one k + slice_index other k)
sums_more one other old new class sum within long is_new is_sum before k less = elim (cases_eq k class) [
  | inl same ↦
      ap (λ (l : List ℕ). slice_index l k) is_new ∙ ap (λ (i : ℕ). slice_index (slice_set old class sum) i) same ∙ get_or-set_same old class sum 0 (omega (arith, long, within))
      ∙ is_sum ∙ ap (λ (i : ℕ). counted (slice_index one i + slice_index other i)) (sym same)
  | inr apart ↦
      ap (λ (l : List ℕ). slice_index l k) is_new ∙ get_or-set_other old class k sum 0 apart ∙ before k (omega (arith, less, apart))
]
