use Rattle.std.proofs.Common.{◌≡◌, ◌<◌, ◌+◌, ◌-◌, ℕ, length, drop, sym, subst, arith, inl, inr}
use Rattle.std.proofs.lemmas.Bool.{cases_lt}
use Rattle.pcap_tolerant_captures.specs.Places.{BeginsKnown}
use Rattle.pcap_tolerant_captures.proofs.KnownBlocks.{sliced, none_behind, found_inside, found_stands, none_before}
use Rattle.pcap_tolerant_captures.proofs.places.first_inside.Goals.{else-place-end-via-then-place-end+else-begins_known, else-place-end-via-else-place-end}
use Rattle.pcap_tolerant_captures.proofs.places.first_inside.Goals as goal

pub returns-in-None : goal.returns-in-None
returns-in-None c =
    let l = c.loop-place in
    let s = c.args.bytes.now in
    λ m more less known. elim (cases_lt m l.place) [
      | inl before ↦ l.invariant.none m more before less known
      | inr behind ↦ none_behind c.args.order s l.place l.invariant.inside c.in-None.ensures m behind (omega (arith, less)) known.0
    ]

pub returns-then-begins_known : goal.returns-then-begins_known
returns-then-begins_known c =
    let l = c.loop-place in
    let s = c.args.bytes.now in
    let n = c.in-Some.skipped in
    let found = c.in-Some.ensures in
    let less : l.place + n < length s = found_inside c.args.order s l.place l.invariant.inside n found in
    let end : l.place + n < length s - c.args.left = omega (arith, c.if-place-end.true) in
    let known : BeginsKnown c.args.order (drop (l.place + n) s) = subst (BeginsKnown c.args.order) (sliced c.args.order s (l.place + n) (omega (arith, less))) (c.begins_known.ensures.0 cc) in
    record {
      behind = omega (arith, l.invariant.behind);
      inside = omega (arith, end);
      goes_on = (found_stands c.args.order s l.place l.invariant.inside n found, known);
      is_first = λ m more before here. elim (cases_lt m l.place) [
        | inl earlier ↦ l.invariant.none m more earlier (omega (arith, before, end)) here
        | inr behind ↦ none_before c.args.order s l.place l.invariant.inside n found m behind before here.0
      ];
    }

pub loop-place-preserved : goal.loop-place-preserved
loop-place-preserved c =
    let l = c.loop-place in
    let s = c.args.bytes.now in
    let n = c.in-Some.skipped in
    let found = c.in-Some.ensures in
    let less : l.place + n < length s = found_inside c.args.order s l.place l.invariant.inside n found in
    let whole = sliced c.args.order s (l.place + n) (omega (arith, less)) in
    let last : l.place + n < length s - c.args.left → BeginsKnown c.args.order (drop (l.place + n) s) → ⊥ =
    λ inside known. elim c.else-place-end.branch [
      | else-place-end-via-then-place-end+else-begins_known w ↦ (let is = w.begins_known.ensures.1 (subst (BeginsKnown c.args.order) (sym whole) known) in absurd cc)
      | else-place-end-via-else-place-end w ↦ absurd (omega (arith, inside, w.if-place-end.false))
    ]
    in
    record {
      behind = omega (arith, l.invariant.behind);
      inside = omega (arith, less);
      none = λ m more before inside here. elim (cases_lt m l.place) [
        | inl earlier ↦ l.invariant.none m more earlier inside here
        | inr behind ↦ elim (cases_lt m (l.place + n)) [
          | inl skipped ↦ none_before c.args.order s l.place l.invariant.inside n found m behind skipped here.0
          | inr there ↦ (
              let is : m ≡ l.place + n = omega (arith, before, there) in
              last (omega (arith, is, inside)) (subst (λ (k : ℕ). BeginsKnown c.args.order (drop k s)) is here.1))
        ]
      ];
    }
