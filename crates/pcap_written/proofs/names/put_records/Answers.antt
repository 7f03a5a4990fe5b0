use Rattle.std.proofs.Common.{map}
use Rattle.std.specs.Prelude.{Any}
use Rattle.std.proofs.lemmas.Result.{err_from_is_err_and}
use Rattle.pcap_options.specs.Record.{name_record_of}
use Rattle.pcap_written.specs.Flaws.{RecordFlaw}
use Rattle.pcap_written.proofs.Lists.{any_at}
use Rattle.pcap_written.proofs.Puts.{refuses_more}
use Rattle.pcap_written.proofs.names.put_records.Goals as goal

pub returns-in_err-put_record : goal.returns-in_err-put_record
returns-in_err-put_record g c =
    let p = err_from_is_err_and c.from_residual.result c.from_residual.ensures.1 in
    rw (p.1, p.2) (refuses_more (λ flaw. RecordFlaw flaw (name_record_of c.record-item.result)) (λ flaw. Any (RecordFlaw flaw) (map name_record_of c.args.records.now))
    (λ flaw here. any_at name_record_of (RecordFlaw flaw) c.args.records.now c.loop-record.record-index c.record-item.result c.loop-record-test.true c.record-item.is here) c.in_err-put_record.field-0.0 c.in_err-put_record.ensures)
