use Rattle.std.proofs.Common.{arith, ap, sym, ◌∙◌}
use Rattle.std.proofs.lemmas.Bool.{true≢false}
use Rattle.pcap_ng.specs.State.{is_kept}
use Rattle.pcap_ng.proofs.PassedBlocks.{aligned_length, begins_with, block_length, block_passed, ends_with, equal_lengths, leaving_type}
use Rattle.pcap_ng.proofs.pcapng.stretch.pass_block.Goals.{then-used-lt12-via-then-used-lt12, then-used-lt12-via-else-used-lt12+then-slice-used}
use Rattle.pcap_ng.proofs.pcapng.stretch.pass_block.Goals as goal

pub returns-then-len-ne0 : goal.returns-then-len-ne0
returns-then-len-ne0 c = λ b after text leaves.
    let e = c.args.order in
    let first = c.split_u32_in-number in
    let second = c.split_u32_in-len in
    let begins = begins_with e first.result.0 second.result.0 c.args.slice.now first.result.1.now second.result.1.now first.ensures.number second.ensures.number in
    absurd (c.if-len-ne0.true (aligned_length e _ _ _ _ begins b after text leaves))

pub returns-then-stays_in_force : goal.returns-then-stays_in_force
returns-then-stays_in_force c = λ b after text leaves.
    let e = c.args.order in
    let first = c.split_u32_in-number in
    let second = c.split_u32_in-len in
    let begins = begins_with e first.result.0 second.result.0 c.args.slice.now first.result.1.now second.result.1.now first.ensures.number second.ensures.number in
    absurd (true≢false (c.if-stays_in_force.ensures ∙ ap is_kept c.from.ensures ∙ leaving_type e _ _ _ _ begins b after text leaves))

pub returns-then-used-lt12 : goal.returns-then-used-lt12
returns-then-used-lt12 c = λ b after text leaves.
    let e = c.args.order in
    let first = c.split_u32_in-number in
    let second = c.split_u32_in-len in
    let begins = begins_with e first.result.0 second.result.0 c.args.slice.now first.result.1.now second.result.1.now first.ensures.number second.ensures.number in
    let long = block_length e _ _ _ _ begins b after text leaves in
    elim c.then-used-lt12.branch [
      | then-used-lt12-via-then-used-lt12 w ↦ absurd (omega (arith, long.1, w.if-used-lt12.true))
      | then-used-lt12-via-else-used-lt12+then-slice-used w ↦ omega (arith, long.0, w.if-slice-used.true)
    ]

pub returns-then-u32_in-len : goal.returns-then-u32_in-len
returns-then-u32_in-len c = λ b after text leaves.
    let e = c.args.order in
    let first = c.split_u32_in-number in
    let second = c.split_u32_in-len in
    let begins = begins_with e first.result.0 second.result.0 c.args.slice.now first.result.1.now second.result.1.now first.ensures.number second.ensures.number in
    let cut = c.split_at.ensures in
    let again = c.split_at-2.ensures in
    let ends = ends_with e second.result.0 c.u32_in.result c.args.slice.now c.split_at.result.0.now c.split_at.result.1.now c.split_at-2.result.0.now c.split_at-2.result.1.now cut.by_index.0 cut.front_len again.by_index.0 again.front_len c.if-used-lt12.false c.u32_in.ensures in
    absurd (c.if-u32_in-len.true (equal_lengths e _ _ _ _ begins b after text leaves _ _ ends))

pub returns : goal.returns
returns c =
    let e = c.args.order in
    let first = c.split_u32_in-number in
    let second = c.split_u32_in-len in
    let begins = begins_with e first.result.0 second.result.0 c.args.slice.now first.result.1.now second.result.1.now first.ensures.number second.ensures.number in
    let cut = c.split_at.ensures in
    let again = c.split_at-2.ensures in
    let ends = ends_with e second.result.0 c.u32_in.result c.args.slice.now c.split_at.result.0.now c.split_at.result.1.now c.split_at-2.result.0.now c.split_at-2.result.1.now cut.by_index.0 cut.front_len again.by_index.0 again.front_len c.if-used-lt12.false c.u32_in.ensures in
    (block_passed e _ _ _ _ begins c.u32_in.result c.split_at.result.1.now ends (ap is_kept (sym c.from.ensures) ∙ sym c.if-stays_in_force.ensures) c.if-len-ne0.false c.if-used-lt12.false c.if-u32_in-len.false, omega (arith, cut.back_len, c.if-slice-used.false))
