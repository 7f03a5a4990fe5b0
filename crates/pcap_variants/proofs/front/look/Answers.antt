use Rattle.std.proofs.Common.{◌≡◌, ◌≤◌, ◌<◌, ◌+◌, ◌++◌, ℕ, length, sym, subst, arith, take, drop}
use Rattle.pcap_variants.specs.Variants.{further_len, included_in}
use Rattle.pcap_variants.specs.Ahead.{Ahead}
use Rattle.pcap_variants.proofs.Going.{head_ahead, skipped, stay, untrue}
use Rattle.pcap_variants.proofs.front.look.Goals as goal

pub returns-then-left-gt0 : goal.returns-then-left-gt0
returns-then-left-gt0 c =
    let in_left : c.min-len.result ≤ c.args.left = omega (arith, c.min-len.ensures) in
    let in_s : c.min-len.result ≤ length c.args.slice.now = omega (arith, c.min-len.ensures) in
    let some : 0 < c.min-len.result = omega (arith, c.min-len.ensures, c.if-left-gt0.true, c.requires) in
    (record { some = some; written = omega arith; passed = in_s }, λ next plain may a. stay c.args.variant.now c.args.left c.min-len.result c.args.slice.now next plain in_left in_s a)

pub returns-then-not-can_be_head : goal.returns-then-not-can_be_head
returns-then-not-can_be_head c =
    let variant = c.args.variant.now in
    let s = c.args.slice.now in
    let zero : c.args.left ≡ 0 = omega (arith, c.if-left-gt0.false) in
    let long : 16 + further_len variant.further ≤ length s = omega (arith, c.len-begin.ensures.number, c.if-slice-begin.false) in
    skipped variant c.args.left c.args.is_all s c.skip.result (λ next plain a.
    let here : Ahead variant 0 (s ++ next) plain = subst (λ (k : ℕ). Ahead variant k (s ++ next) plain) zero a in
    let yes = c.can_be_head.ensures.1 (head_ahead variant s next plain long here).can in
    untrue c.if-not-can_be_head.true yes) c.skip.ensures

pub returns : goal.returns
returns c =
    let variant = c.args.variant.now in
    let s = c.args.slice.now in
    let zero : c.args.left ≡ 0 = omega (arith, c.if-left-gt0.false) in
    let long : 16 + further_len variant.further ≤ length s = omega (arith, c.len-begin.ensures.number, c.if-slice-begin.false) in (
      record { some = omega arith; written = omega arith; passed = omega (arith, c.if-slice-begin.false) },
      λ next plain may a.
          let here : Ahead variant 0 (s ++ next) plain = subst (λ (k : ℕ). Ahead variant k (s ++ next) plain) zero a in
          let goes = (head_ahead variant s next plain long here).goes in
          let left : c.in_ok-left.left ≡ included_in variant.order (take 16 s) = c.in_ok-left.ensures next plain may here in
          let passed : 16 + c.len-begin.result ≡ 16 + further_len variant.further = omega (arith, c.len-begin.ensures.number) in (
            goes.0,
            goes.1,
            subst (λ (k : ℕ). Ahead variant k (drop (16 + c.len-begin.result) s ++ next) goes.0) (sym left)
                (subst (λ (k : ℕ). Ahead variant (included_in variant.order (take 16 s)) (drop k s ++ next) goes.0) (sym passed) goes.2),
          ),
    )
