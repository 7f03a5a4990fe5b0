use Rattle.std.proofs.lemmas.Result.{err_from_is_err_and}
use Rattle.pcap_core.proofs.Refusals.{shows_more}
use Rattle.pcap_options.proofs.NameRecords.{records_fail}
use Rattle.pcapfile_c.proofs.TakenOptions.{records_more, records_end}
use Rattle.pcapfile_c.proofs.records.behind_records.Goals as goal

pub returns-in_err-rest : goal.returns-in_err-rest
returns-in_err-rest g c =
    let so_far = c.loop-rest.invariant in
    let p = err_from_is_err_and c.from_residual.result c.from_residual.ensures.1 in
    rw (p.1, p.2) (shows_more (records_fail g.B.ByteOrder.number_of so_far.0 _ _ so_far.1) c.in_err-rest.field-0.0 c.in_err-rest.ensures)

pub returns-in-None : goal.returns-in-None
returns-in-None g c = records_end g.B.ByteOrder.number_of _ _ _ c.loop-rest.invariant (rw c.in-None.is at c.in_ok-rest.ensures)

pub loop-rest-preserved : goal.loop-rest-preserved
loop-rest-preserved g c = records_more g.B.ByteOrder.number_of _ _ _ _ c.loop-rest.invariant (rw c.in-Some.is at c.in_ok-rest.ensures)
