use Rattle.std.proofs.Common.{arith}
use Rattle.std.proofs.lemmas.Result.{err_from_is_err_and}
use Rattle.pcap_options.specs.Record.{short, cut}
use Rattle.pcap_options.proofs.ReadOptions.{head_is}
use Rattle.pcap_options.proofs.Naming.{split_parts}
use Rattle.pcap_options.proofs.NameRecords.{record_wrong, record_grows, record_unpadded, record_found}
use Rattle.pcap_options.proofs.Refusals.{denies_more}
use Rattle.pcap_options.proofs.record.Record.read.Goals as goal

pub returns-then-slice-lt4-clause-tells : goal.returns-then-slice-lt4-clause-tells
returns-then-slice-lt4-clause-tells g c = short (omega arith)

pub returns-then-after-len-clause-tells : goal.returns-then-after-len-clause-tells
returns-then-after-len-clause-tells g c = cut _ _ _ (head_is c.split_u16-type_.ensures.number c.split_u16-len.ensures.number) (omega arith)

pub returns-in_err-record-clause-tells : goal.returns-in_err-record-clause-tells
returns-in_err-record-clause-tells g c =
    let p = err_from_is_err_and c.from_residual.result c.from_residual.ensures.1 in
    let h = head_is c.split_u16-type_.ensures.number c.split_u16-len.ensures.number in
    let parts = split_parts _ _ _ _ c.split_at.ensures.front c.split_at.ensures.back in
    rw (p.1, p.2) (denies_more c.in_err-record.field-0.0 (record_grows _ _ _ _ _ _ _ h c.split_at.ensures.front_len parts) (record_wrong _ _ _ _ _ _ _ h c.split_at.ensures.front_len parts) c.in_err-record.ensures.tells)

pub returns-in_default-clause-tells : goal.returns-in_default-clause-tells
returns-in_default-clause-tells g c =
    let h = head_is c.split_u16-type_.ensures.number c.split_u16-len.ensures.number in
    let parts = split_parts _ _ _ _ c.split_at.ensures.front c.split_at.ensures.back in
    record_unpadded _ _ _ _ _ _ _ _ h c.split_at.ensures.front_len parts c.in_ok-record.ensures.tells c.in_default.ensures.len

pub returns-clause-tells : goal.returns-clause-tells
returns-clause-tells g c =
    let h = head_is c.split_u16-type_.ensures.number c.split_u16-len.ensures.number in
    let parts = split_parts _ _ _ _ c.split_at.ensures.front c.split_at.ensures.back in
    record_found _ _ _ _ _ _ _ _ _ _ h c.split_at.ensures.front_len parts c.in_ok-record.ensures.tells c.in-Some.ensures.len c.in-Some.ensures.padded
