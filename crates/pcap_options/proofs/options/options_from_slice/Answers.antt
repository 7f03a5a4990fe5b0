use Rattle.std.proofs.lemmas.List.{map-append}
use Rattle.std.proofs.lemmas.List.Elements.{All-push}
use Rattle.std.proofs.lemmas.Result.{err_from_is_err_and}
use Rattle.pcap_options.specs.Options.{OptionText, marked, may_end_with_body}
use Rattle.pcap_core.proofs.Padded.{chain_more}
use Rattle.pcap_options.proofs.ReadOptions.{list_fails, list_ends, not_empty, is_empty}
use Rattle.pcap_options.proofs.Growth.{begins_with}
use Rattle.pcap_options.proofs.Refusals.{denies_faults}
use Rattle.pcap_options.proofs.options.options_from_slice.Goals as goal

pub returns-in_err-after-clause-tells : goal.returns-in_err-after-clause-tells
returns-in_err-after-clause-tells g c =
    let p = err_from_is_err_and c.from_residual.result c.from_residual.ensures.1 in
    rw (p.1, p.2) (denies_faults _ c.in_err-after.field-0.0 (list_fails may_end_with_body _ _ _ _ _ c.loop-alloc.invariant.so_far (not_empty _ c.loop-alloc-test.ensures)) c.in_err-after.ensures.tells)

pub returns-in-None-clause-tells : goal.returns-in-None-clause-tells
returns-in-None-clause-tells g c = marked _ c.loop-alloc.invariant.so_far (rw c.in-None.is at c.in_ok-after.ensures.tells)

pub returns-in_err-append-in-Some-clause-tells : goal.returns-in_err-append-in-Some-clause-tells
returns-in_err-append-in-Some-clause-tells g c =
    let p = err_from_is_err_and c.from_residual-in_err-append-in-Some.result c.from_residual-in_err-append-in-Some.ensures.1 in
    rw (p.1, p.2) (begins_with (OptionText g.B.ByteOrder.number_of g.O.PcapNgOption.kind) _ _ _ _ _ c.loop-alloc.invariant.so_far (rw c.in-Some.is at c.in_ok-after.ensures.tells))

pub loop-alloc-preserved : goal.loop-alloc-preserved
loop-alloc-preserved g c = record {
  so_far = rw (c.in_ok-append-in-Some.ensures.items, map-append) (chain_more (OptionText g.B.ByteOrder.number_of g.O.PcapNgOption.kind) _ _ _ _ _ c.loop-alloc.invariant.so_far (rw c.in-Some.is at c.in_ok-after.ensures.tells));
  borrowed = rw c.in_ok-append-in-Some.ensures.items (All-push g.O.PcapNgOption.is_borrowed _ _ c.loop-alloc.invariant.borrowed (rw c.in-Some.is at c.in_ok-after.ensures.borrowed));
}

pub returns-clause-tells : goal.returns-clause-tells
returns-clause-tells g c = list_ends _ _ _ _ _ c.loop-alloc.invariant.so_far (is_empty _ c.loop-alloc-test.ensures)
