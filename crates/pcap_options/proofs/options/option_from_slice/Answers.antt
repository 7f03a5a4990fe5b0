use Rattle.std.proofs.Common.{arith}
use Rattle.std.proofs.lemmas.Result.{err_from_is_err_and}
use Rattle.pcap_options.specs.Options.{short, cut}
use Rattle.pcap_options.proofs.ReadOptions.{head_is, option_wrong}
use Rattle.pcap_options.proofs.Refusals.{denies_faults}
use Rattle.pcap_options.proofs.options.option_from_slice.Goals as goal

pub returns-then-slice-lt4-clause-tells : goal.returns-then-slice-lt4-clause-tells
returns-then-slice-lt4-clause-tells g c = short (omega arith)

pub returns-in_default-clause-tells : goal.returns-in_default-clause-tells
returns-in_default-clause-tells g c =
    cut _ _ _ (head_is c.split_u16-code.ensures.number c.split_u16-len.ensures.number) c.if-code-eq0.false c.in_default.ensures.len

pub returns-in_err-option-clause-tells : goal.returns-in_err-option-clause-tells
returns-in_err-option-clause-tells g c =
    let p = err_from_is_err_and c.from_residual.result c.from_residual.ensures.1 in
    let h = head_is c.split_u16-code.ensures.number c.split_u16-len.ensures.number in
    rw (p.1, p.2) (denies_faults _ c.in_err-option.field-0.0 (option_wrong _ g.O.PcapNgOption.kind _ _ _ _ _ _ h c.in-Some.ensures.len c.if-code-eq0.false c.in-Some.ensures.padded) c.in_err-option.ensures.tells)
