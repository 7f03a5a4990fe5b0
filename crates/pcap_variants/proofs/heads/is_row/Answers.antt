use Rattle.std.proofs.Common.{◌≡◌, ◌<◌, ◌+◌, ◌-◌, ℕ, List, Some, length, refl, sym, ap, subst, ◌∙◌, arith, drop}
use Rattle.pcap_variants.specs.Rows.{Row, length_of, seconds_of}
use Rattle.pcap_variants.proofs.Rows.{row_first, row_down, row_up, row_end}
use Rattle.pcap_variants.proofs.heads.is_row.Goals as goal

pub returns-then-not-begins_packet : goal.returns-then-not-begins_packet
returns-then-not-begins_packet c =
    let some : 0 < c.loop-more.more = omega (arith, c.loop-more-test.true) in (
      λ no. absurd cc,
      λ row.
          let yes = c.begins_packet.ensures.1 (row_first c.args.order c.args.further c.loop-more.time c.loop-more.more c.loop-more.left.now some (c.loop-more.invariant.down row)) in
          let no = c.if-not-begins_packet.true in search,
    )

pub returns-then-end-left : goal.returns-then-end-left
returns-then-end-left c =
    let some : 0 < c.loop-more.more = omega (arith, c.loop-more-test.true) in
    let begins = c.begins_packet.ensures.0 (let no = c.if-not-begins_packet.false in search) in
    let ends : length_of c.args.order c.args.further c.loop-more.left.now ≡ length c.loop-more.left.now = omega (arith, c.included.ensures.number, c.if-end-left.true) in
    (λ yes. c.loop-more.invariant.up (row_end c.args.order c.args.further c.loop-more.time c.loop-more.more c.loop-more.left.now some begins ends), λ row. refl)

pub loop-more-preserved : goal.loop-more-preserved
loop-more-preserved c =
    let order = c.args.order in
    let further = c.args.further in
    let left = c.loop-more.left.now in
    let some : 0 < c.loop-more.more = omega (arith, c.loop-more-test.true) in
    let begins = c.begins_packet.ensures.0 (let no = c.if-not-begins_packet.false in search) in
    let len : 16 + further + c.included.result ≡ length_of order further left = ap (λ (k : ℕ). 16 + further + k) c.included.ensures.number in
    let on : length_of order further left ≡ length left → ⊥ = λ e. c.if-end-left.false (len ∙ e) in
    let time : c.number.result ≡ seconds_of order left = c.number.ensures in
    let behind : c.behind-left.result.now ≡ drop (length_of order further left) left = c.behind-left.ensures ∙ ap (λ (k : ℕ). drop k left) len in
    record {
      down = λ row.
          let next = row_down order further c.loop-more.time c.loop-more.more left some on (c.loop-more.invariant.down row) in
          subst (λ (t : ℕ). Row order further (Some t) (c.loop-more.more - 1) c.behind-left.result.now) (sym time)
          (subst (λ (s : List ℕ). Row order further (Some (seconds_of order left)) (c.loop-more.more - 1) s) (sym behind) next);
      up = λ row.
          let next = subst (λ (s : List ℕ). Row order further (Some (seconds_of order left)) (c.loop-more.more - 1) s) behind
          (subst (λ (t : ℕ). Row order further (Some t) (c.loop-more.more - 1) c.behind-left.result.now) time row) in
          c.loop-more.invariant.up (row_up order further c.loop-more.time c.loop-more.more left some begins next);
    }
