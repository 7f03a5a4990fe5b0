use Rattle.std.proofs.Common.{◌≡◌, ◌<◌, ◌++◌, ◌∙◌, length, refl, sym, arith}
use Rattle.std.proofs.lemmas.List.{take-append-drop}
use Rattle.test_formats.specs.Samples.{head_length, fault_of, item_with, sample_format}
use Rattle.test_formats.proofs.LentSamples.{lent_short, lent_refused, lent_lacks, lent_whole}
use Rattle.test_formats.proofs.lent.SamplesOfItems.next_item.Goals as goal

pub returns-then-slice-len-clause-finds : goal.returns-then-slice-len-clause-finds
returns-then-slice-len-clause-finds c =
    let size = c.args.self.now.size in
    let s = c.args.slice.now in
    let short : length s < head_length size = omega (arith, c.if-slice-len.true, c.head_len-len.ensures) in
    (refl, rw c.head_len-len.ensures (lent_short size s short))

pub returns-in-Err-clause-finds : goal.returns-in-Err-clause-finds
returns-in-Err-clause-finds c =
    let size = c.args.self.now.size in
    let s = c.args.slice.now in
    let front = c.split_at.result.0.now in
    let after = c.split_at.result.1.now in
    let split : s ≡ front ++ after = rw (c.split_at.ensures.front, c.split_at.ensures.back) (sym (take-append-drop c.head_len-len.result s)) in
    let long : length front ≡ head_length size = c.split_at.ensures.front_len ∙ c.head_len-len.ensures in
    let fault = fault_of c.in-Err.fault in
    (refl, (fault, refl, lent_refused size s front after split long fault c.in-Err.ensures))

pub returns-in-Ok-clause-finds : goal.returns-in-Ok-clause-finds
returns-in-Ok-clause-finds c =
    let size = c.args.self.now.size in
    let s = c.args.slice.now in
    let front = c.split_at.result.0.now in
    let after = c.split_at.result.1.now in
    let split : s ≡ front ++ after = rw (c.split_at.ensures.front, c.split_at.ensures.back) (sym (take-append-drop c.head_len-len.result s)) in
    let long : length front ≡ head_length size = c.split_at.ensures.front_len ∙ c.head_len-len.ensures in
    (refl, lent_lacks size s front after split long c.in-Ok.field-0-0 c.in-Ok.n c.in-Ok.ensures (omega (arith, c.if-after-n.true)))

pub returns-in-Ok-2-clause-finds : goal.returns-in-Ok-2-clause-finds
unfolding sample_format
returns-in-Ok-2-clause-finds c =
    let size = c.args.self.now.size in
    let s = c.args.slice.now in
    let front = c.split_at.result.0.now in
    let after = c.split_at.result.1.now in
    let split : s ≡ front ++ after = rw (c.split_at.ensures.front, c.split_at.ensures.back) (sym (take-append-drop c.head_len-len.result s)) in
    let long : length front ≡ head_length size = c.split_at.ensures.front_len ∙ c.head_len-len.ensures in
    let head = c.in-Ok.field-0-0 in
    let n = c.in-Ok.n in
    let body = c.split_at-in-Ok-2.result.0.now in
    let rest = c.split_at-in-Ok-2.result.1.now in
    let parts : after ≡ body ++ rest = rw (c.split_at-in-Ok-2.ensures.front, c.split_at-in-Ok-2.ensures.back) (sym (take-append-drop n after)) in
    record {
      value = item_with head body;
      text = lent_whole size s front after split long head n body rest c.in-Ok.ensures parts c.split_at-in-Ok-2.ensures.front_len;
      goes = c.after_head-self.ensures;
      part_is = refl;
    }
