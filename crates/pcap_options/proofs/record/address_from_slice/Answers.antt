use Rattle.std.proofs.Common.{arith, ◌+◌, ◌≤◌, ◌≡◌, length}
use Rattle.std.proofs.lemmas.Result.{err_from_is_err_and}
use Rattle.pcap_options.specs.Record.{short}
use Rattle.pcap_options.proofs.Naming.{split_parts, address_fails, address_grows}
use Rattle.pcap_options.proofs.Refusals.{denies_more}
use Rattle.pcap_options.proofs.record.address_from_slice.Goals as goal

pub returns-then-slice-width-clause-tells : goal.returns-then-slice-width-clause-tells
returns-then-slice-width-clause-tells c = short (omega arith)

pub returns-in_err-names_from_slice-clause-tells : goal.returns-in_err-names_from_slice-clause-tells
returns-in_err-names_from_slice-clause-tells c =
    let p = err_from_is_err_and c.from_residual.result c.from_residual.ensures.1 in
    let long : c.args.width + 2 ≤ length c.args.slice.now = omega arith in
    let wide : length c.split_at.result.0.now ≡ c.args.width = c.split_at.ensures.front_len in
    let parts = split_parts c.args.width _ _ _ c.split_at.ensures.front c.split_at.ensures.back in
    rw (p.1, p.2) (denies_more c.in_err-names_from_slice.field-0.0 (address_grows _ _ _ _ long parts wide) (address_fails _ _ _ _ _ long parts wide) c.in_err-names_from_slice.ensures.tells)
