-- The order of the ranks of blocks.
use Rattle.std.proofs.Common.{◌≡◌, ◌<◌, ◌+◌, ◌*◌, ◌^◌, ◌⊎◌, pos, ◌+ℤ◌, ℕ, Option, Some, None, inl, inr, arith}
use Rattle.std.specs.Prelude.{◌↔◌}
use Rattle.std.proofs.lemmas.Bool.{cases_lt}
use Rattle.std.proofs.lemmas.Int.{ints}
use Rattle.pcap_times.specs.declared.clock.Timestamp.{Timestamp}
use Rattle.pcapfile_run.specs.BlockPackets.{IsBefore}
use Rattle.pcapfile_sort.specs.Blocks.{IsTimeNumber, IsWithinSecond, rank_in}

rank_less : (a b m n : ℕ) → n < 2 ^ 95 → rank_in a m < rank_in b n → (a < b) ⊎ ((a ≡ b) × (m < n))
rank_less a b m n few less = elim (cases_lt a b) [
  | inl before ↦ inl before
  | inr most ↦
      let same : a ≡ b = omega (arith, few, less, most) in
      inr (same, omega (arith, less, same))
]

less_rank : (a b m n : ℕ) → m < 2 ^ 95 → (a < b) ⊎ ((a ≡ b) × (m < n)) → rank_in a m < rank_in b n
less_rank a b m n few (inl before) = omega (arith, few, before)
less_rank a b m n few (inr x) = omega (arith, x.0, x.1)

pub rank_order : (a b m n : ℕ) → m < 2 ^ 95 → n < 2 ^ 95 → (rank_in a m < rank_in b n) ↔ ((a < b) ⊎ ((a ≡ b) × (m < n)))
rank_order a b m n few less = (rank_less a b m n less, less_rank a b m n few)

module _ (t u : Timestamp) (s r : ℕ) (first : pos s ≡ t.seconds +ℤ pos (2 ^ 63)) (second : pos r ≡ u.seconds +ℤ pos (2 ^ 63)) where
  time_less : u.nanoseconds < 10 ^ 9 → 2 + (s * 10 ^ 9 + t.nanoseconds) < 2 + (r * 10 ^ 9 + u.nanoseconds) → IsBefore (Some t) (Some u)
  time_less within less = elim (cases_lt s r) [
    | inl before ↦ inl (omega (arith, ints, first, second, before))
    | inr most ↦
        let same : s ≡ r = omega (arith, within, less, most) in
        inr (omega (arith, ints, first, second, same), omega (arith, less, same))
  ]

  less_time : t.nanoseconds < 10 ^ 9 → IsBefore (Some t) (Some u) → 2 + (s * 10 ^ 9 + t.nanoseconds) < 2 + (r * 10 ^ 9 + u.nanoseconds)
  less_time within (inl before) = let less : s < r = omega (arith, ints, first, second, before) in omega (arith, within, less)
  less_time within (inr x) = let same : s ≡ r = omega (arith, ints, first, second, x.0) in omega (arith, same, x.1)

pub number_order : (a b : Option Timestamp) (m n : ℕ) → IsWithinSecond a → IsWithinSecond b → IsTimeNumber a m → IsTimeNumber b n → (m < n) ↔ IsBefore a b
number_order None None m n x y one other = (λ less. omega (arith, less, one, other), λ before. absurd before)
number_order None (Some u) m n x y one other = (λ less. tt, λ before. omega (arith, one, other.2))
number_order (Some t) None m n x y one other = (λ less. omega (arith, less, one.2, other), λ before. absurd before)
number_order (Some t) (Some u) m n x y one other = (
  λ less. time_less t u one.0 other.0 one.1 other.1 y (omega (arith, less, one.2, other.2)),
  λ before. omega (arith, less_time t u one.0 other.0 one.1 other.1 x before, one.2, other.2),
)
