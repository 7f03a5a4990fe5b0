use Rattle.std.proofs.Common.{arith}
use Rattle.std.proofs.lemmas.Result.{err_from_is_err_and}
use Rattle.pcap_core.specs.Faults.{Invalid, Io}
use Rattle.pcap_core.specs.declared.rules.Rule.TheVariants.{RecordCut, RecordUnpadded}
use Rattle.pcap_core.proofs.Refusals.{named_shows, shows_more}
use Rattle.pcap_options.specs.Record.{RecordFault, short, cut}
use Rattle.pcap_options.proofs.Naming.{split_parts}
use Rattle.pcap_options.proofs.NameRecords.{record_wrong, record_unpadded}
use Rattle.pcap_options.proofs.ReadOptions.{head_is}
use Rattle.pcapfile_c.proofs.records.record_in.Goals as goal

pub returns-then-slice-lt4 : goal.returns-then-slice-lt4
returns-then-slice-lt4 g c =
    let fault : RecordFault g.B.ByteOrder.number_of c.args.slice.now Io = short (omega arith) in
    rw c.from-then-slice-lt4.ensures fault

pub returns-then-after-len : goal.returns-then-after-len
returns-then-after-len g c =
    let order = g.B.ByteOrder.number_of in
    let fault : RecordFault order c.args.slice.now (Invalid RecordCut) = cut _ _ _ (head_is c.split_u16-type_.ensures.number c.split_u16-len.ensures.number) (omega arith) in
    named_shows (RecordFault order c.args.slice.now) RecordCut c.from-then-after-len.result fault c.from-then-after-len.ensures

pub returns-in_err-record : goal.returns-in_err-record
returns-in_err-record g c =
    let order = g.B.ByteOrder.number_of in
    let h = head_is c.split_u16-type_.ensures.number c.split_u16-len.ensures.number in
    let parts = split_parts _ _ _ _ c.split_at.ensures.front c.split_at.ensures.back in
    let p = err_from_is_err_and c.from_residual.result c.from_residual.ensures.1 in
    rw (p.1, p.2) (shows_more (record_wrong order _ _ _ _ _ _ h c.split_at.ensures.front_len parts) c.in_err-record.field-0.0 c.in_err-record.ensures)

pub returns-in-None : goal.returns-in-None
returns-in-None g c =
    let order = g.B.ByteOrder.number_of in
    let h = head_is c.split_u16-type_.ensures.number c.split_u16-len.ensures.number in
    let parts = split_parts _ _ _ _ c.split_at.ensures.front c.split_at.ensures.back in
    let found = c.in_ok-record.ensures in
    let fault : RecordFault order c.args.slice.now (Invalid RecordUnpadded) = record_unpadded order found.0 _ _ _ _ _ _ h c.split_at.ensures.front_len parts found.2 c.in-None.ensures.len in
    named_shows (RecordFault order c.args.slice.now) RecordUnpadded c.from-in-None.result fault c.from-in-None.ensures
