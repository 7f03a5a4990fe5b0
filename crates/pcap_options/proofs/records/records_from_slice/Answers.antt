use Rattle.std.proofs.lemmas.List.{map-append}
use Rattle.std.proofs.lemmas.List.Elements.{All-push}
use Rattle.pcap_options.specs.Record.{RecordIsBorrowed}
use Rattle.std.proofs.lemmas.Result.{err_from_is_err_and}
use Rattle.pcap_options.specs.Records.{KeptText, kept}
use Rattle.pcap_core.proofs.Padded.{chain_more}
use Rattle.pcap_options.proofs.Growth.{begins_with}
use Rattle.pcap_options.proofs.Refusals.{denies_more}
use Rattle.pcap_options.proofs.NameRecords.{kept_of, records_grow, records_fail}
use Rattle.pcap_options.proofs.records.records_from_slice.Goals as goal

pub returns-in_err-after-clause-tells : goal.returns-in_err-after-clause-tells
returns-in_err-after-clause-tells g c =
    let p = err_from_is_err_and c.from_residual.result c.from_residual.ensures.1 in
    rw (p.1, p.2) (denies_more c.in_err-after.field-0.0 (records_grow _ _ _ _ c.loop-records.invariant.so_far) (records_fail _ _ _ _ c.loop-records.invariant.so_far) c.in_err-after.ensures.tells)

pub returns-in_err-push-in_default-clause-tells : goal.returns-in_err-push-in_default-clause-tells
returns-in_err-push-in_default-clause-tells g c =
    let p = err_from_is_err_and c.from_residual-in_err-push-in_default.result c.from_residual-in_err-push-in_default.ensures.1 in
    rw (p.1, p.2) (kept (begins_with (KeptText g.B.ByteOrder.number_of) _ _ _ _ _ c.loop-records.invariant.so_far (kept_of _ _ _ _ c.in_ok-after.ensures.tells c.in_default.not-End)))

pub loop-records-preserved : goal.loop-records-preserved
loop-records-preserved g c = record {
  so_far = rw (c.in_ok-push-in_default.ensures.items, map-append) (chain_more (KeptText g.B.ByteOrder.number_of) _ _ _ _ _ c.loop-records.invariant.so_far (kept_of _ _ _ _ c.in_ok-after.ensures.tells c.in_default.not-End));
  borrowed = rw c.in_ok-push-in_default.ensures.items (All-push RecordIsBorrowed _ _ c.loop-records.invariant.borrowed c.in_ok-after.ensures.borrowed);
}
