-- Rows of heads, as the code goes through them.
use Rattle.std.proofs.Common.{◌≡◌, ◌<◌, ◌-◌, ℕ, zero, suc, List, length, sym, subst, arith, inl, inr, Option, Some, drop}
use Rattle.pcap_core.specs.declared.common.Endianness.{Endianness}
use Rattle.pcap_variants.specs.Rows.{BeginsPacket, Row, length_of, seconds_of}

module _ (order : Endianness) (further : ℕ) where
  -- A row begins with a head.
  pub row_first : (time : Option ℕ) (more : ℕ) (s : List ℕ) → 0 < more → Row order further time more s → BeginsPacket order further time s
  row_first time zero s some row = absurd (omega (arith, some))
  row_first time (suc k) s some row = row.0

  -- Behind its first packet, a row goes on.
  pub row_down : (time : Option ℕ) (more : ℕ) (s : List ℕ) → 0 < more → (length_of order further s ≡ length s → ⊥) → Row order further time more s → Row order further (Some (seconds_of order s)) (more - 1) (drop (length_of order further s) s)
  row_down time zero s some on row = absurd (omega (arith, some))
  row_down time (suc k) s some on row =
      let one : suc k - 1 ≡ k = omega arith in
      let goes : Row order further (Some (seconds_of order s)) k (drop (length_of order further s) s) = elim row.1 [ inl ends ↦ absurd (on ends) | inr next ↦ next ] in
      subst (λ (n : ℕ). Row order further (Some (seconds_of order s)) n (drop (length_of order further s) s)) (sym one) goes

  pub row_up : (time : Option ℕ) (more : ℕ) (s : List ℕ) → 0 < more → BeginsPacket order further time s → Row order further (Some (seconds_of order s)) (more - 1) (drop (length_of order further s) s) → Row order further time more s
  row_up time zero s some begins row = absurd (omega (arith, some))
  row_up time (suc k) s some begins row =
      let one : suc k - 1 ≡ k = omega arith in
      (begins, inr (subst (λ (n : ℕ). Row order further (Some (seconds_of order s)) n (drop (length_of order further s) s)) one row))

  pub row_end : (time : Option ℕ) (more : ℕ) (s : List ℕ) → 0 < more → BeginsPacket order further time s → length_of order further s ≡ length s → Row order further time more s
  row_end time zero s some begins ends = absurd (omega (arith, some))
  row_end time (suc k) s some begins ends = (begins, inl ends)
