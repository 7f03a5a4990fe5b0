use Rattle.std.proofs.Common.{◌≡◌, ◌≤◌, ◌+◌, ◌++◌, [], ℕ, List, length, sym, subst, ◌∙◌, arith, take, drop, inl, inr}
use Rattle.pcap_variants.specs.Ahead.{Ahead}
use Rattle.pcap_variants.specs.Variants.{CanBeHead, further_len, included_in}
use Rattle.pcap_variants.proofs.Going.{second_can, untrue, whole_end}
use Rattle.pcap_variants.proofs.front.stored.Goals as goal

pub returns-then-slice-end : goal.returns-then-slice-end
returns-then-slice-end c = λ next plain may ahead.
    let variant = c.args.variant.now in
    let s = c.args.slice.now in
    let len = included_in variant.order (take 16 s) in
    let end : 16 + c.len-begin.result + c.included-included.result ≡ 16 + further_len variant.further + len = omega (arith, c.len-begin.ensures.number, c.included-included.ensures.number) in
    let long : 16 + further_len variant.further + len + (16 + further_len variant.further) ≤ length s = omega (arith, c.len-begin.ensures.number, end, c.if-slice-end.true) in
    let can = subst (λ (k : ℕ). CanBeHead variant.order (take 16 (drop k s))) (sym end) (second_can variant s next plain long ahead) in
    absurd (untrue c.if-is_head_at.false (c.is_head_at.ensures.1 can))

pub returns : goal.returns
returns c = λ next plain may ahead.
    let variant = c.args.variant.now in
    let s = c.args.slice.now in
    let len = included_in variant.order (take 16 s) in
    let end : 16 + c.len-begin.result + c.included-included.result ≡ 16 + further_len variant.further + len = omega (arith, c.len-begin.ensures.number, c.included-included.ensures.number) in
    let here : Ahead variant 0 (s ++ []) plain = subst (λ (l : List ℕ). Ahead variant 0 (s ++ l) plain) (may c.if-not-is_all.false) ahead in
    elim (whole_end variant s plain (omega (arith, c.requires)) here) [
      | inl ends ↦ absurd (c.if-slice-end-2.false (ends ∙ sym end))
      | inr long ↦ absurd (omega (arith, long, end, c.len-begin.ensures.number, c.if-slice-end.false))
    ]
