use Rattle.std.proofs.Common.{◌≡◌, ◌∙◌, ◌^◌, ◌<◌, ◌*◌, ℕ, MatchOption, ap, subst}
use Rattle.pcap_times.specs.Times.{units_in_second}
use Rattle.pcapfile_cut.proofs.block_moving.units_in.Goals as goal

pub returns : goal.returns
returns c =
    let unit = c.args.unit in
    let in_second = ap (λ (m : ℕ). m * c.from.result) c.in-Some.ensures.1 ∙ ap (λ (m : ℕ). units_in_second unit * m) c.from.ensures in
    let same : c.in-Some-checked_mul.product ≡ units_in_second unit * c.args.nanoseconds = c.in-Some-checked_mul.ensures.1 ∙ in_second in
    subst (λ (m : ℕ). MatchOption c.whole_seconds.result ((n : ℕ) → n < 2 ^ 64 → n * 1000000000 ≡ m → ⊥) (λ (n : ℕ). n * 1000000000 ≡ m)) same c.whole_seconds.ensures
