use Rattle.std.proofs.Common.{map}
use Rattle.std.proofs.lemmas.List.{map-append}
use Rattle.std.proofs.lemmas.List.Elements.{All-push}
use Rattle.pcap_options.specs.Record.{RecordIsBorrowed, name_record_of}
use Rattle.pcap_tolerant_blocks.specs.Flaws.{said_of}
use Rattle.pcap_tolerant_blocks.specs.NamesAsIs.{judged_record, RecordsGrow}
use Rattle.pcap_tolerant_blocks.proofs.RecordsAsIs.{record_more, records_end, records_cut, grows_at, grows_by_name, grows_by_record, grows_by_end, grows_by_cut}
use Rattle.pcap_tolerant_blocks.proofs.names.records_as_is.Goals as goal
use Rattle.pcap_raw_options.proofs.RawRead.{holds_on_err}

pub returns-in_err-record-clause-memory : goal.returns-in_err-record-clause-memory
returns-in_err-record-clause-memory g c =
    holds_on_err (RecordsGrow _ _) (grows_at _ _ _ _ _ c.loop-flaws.invariant.so_far (grows_by_name _ _ c.in_err-record.ensures.memory)) c.from_residual.result

pub returns-in_err-push-in-Kept-clause-memory : goal.returns-in_err-push-in-Kept-clause-memory
returns-in_err-push-in-Kept-clause-memory g c =
    let kept = rw c.in-Kept.is at c.in_ok-record.ensures.read in
    holds_on_err (RecordsGrow _ _) (grows_at _ _ _ _ _ c.loop-flaws.invariant.so_far (grows_by_record _ _ _ _ kept)) c.from_residual-in_err-push-in-Kept.result

pub returns-in_err-note-in-Kept-clause-memory : goal.returns-in_err-note-in-Kept-clause-memory
returns-in_err-note-in-Kept-clause-memory g c =
    let kept = rw c.in-Kept.is at c.in_ok-record.ensures.read in
    holds_on_err (RecordsGrow _ _) (grows_at _ _ _ _ _ c.loop-flaws.invariant.so_far (grows_by_record _ _ _ _ kept)) c.from_residual-in_err-note-in-Kept.result

pub loop-flaws-preserved : goal.loop-flaws-preserved
loop-flaws-preserved g c =
    let kept = rw c.in-Kept.is at c.in_ok-record.ensures.read in
    record {
      so_far = rw (c.in_ok-push-in-Kept.ensures.items, map-append, c.in_ok-note-in-Kept.ensures.items)
          (record_more g.B.ByteOrder.number_of (map name_record_of c.loop-flaws.records.items) (map said_of c.loop-flaws.flaws.items) c.args.slice.now c.loop-flaws.left.now c.in-Kept.after.now (judged_record (name_record_of c.in-Kept.record) c.in-Kept.flaw) c.loop-flaws.invariant.so_far kept);
      borrowed = rw c.in_ok-push-in-Kept.ensures.items (All-push RecordIsBorrowed _ _ c.loop-flaws.invariant.borrowed (rw c.in-Kept.is at c.in_ok-record.ensures.borrowed));
    }

pub returns-in_err-note-in-End-clause-memory : goal.returns-in_err-note-in-End-clause-memory
returns-in_err-note-in-End-clause-memory g c =
    let end = rw c.in-End.is at c.in_ok-record.ensures.read in
    holds_on_err (RecordsGrow _ _) (grows_at _ _ _ _ _ c.loop-flaws.invariant.so_far (grows_by_end _ _ _ _ end.1 c.in_err-note-in-End.ensures.memory)) c.from_residual-in_err-note-in-End.result

pub returns-in-End-clause-read : goal.returns-in-End-clause-read
returns-in-End-clause-read g c =
    let end = rw c.in-End.is at c.in_ok-record.ensures.read in
    rw c.in_ok-note-in-End.ensures.items
    (records_end g.B.ByteOrder.number_of (map name_record_of c.loop-flaws.records.items) (map said_of c.loop-flaws.flaws.items) c.args.slice.now c.loop-flaws.left.now c.in-End.after.now (judged_record end.0 c.in-End.flaw) c.loop-flaws.invariant.so_far end.1)

pub returns-in_err-push-in-Cut-clause-memory : goal.returns-in_err-push-in-Cut-clause-memory
returns-in_err-push-in-Cut-clause-memory g c =
    let cut = rw c.in-Cut.is at c.in_ok-record.ensures.read in
    holds_on_err (RecordsGrow _ _) (grows_at _ _ _ _ _ c.loop-flaws.invariant.so_far (grows_by_cut _ _ cut.1)) c.from_residual-in_err-push-in-Cut.result

pub returns-in-Cut-clause-read : goal.returns-in-Cut-clause-read
returns-in-Cut-clause-read g c =
    let cut = rw c.in-Cut.is at c.in_ok-record.ensures.read in
    rw c.in_ok-push-in-Cut.ensures.items
    (records_cut g.B.ByteOrder.number_of (map name_record_of c.loop-flaws.records.items) c.loop-flaws.flaws.items c.in-Cut.flaw c.args.slice.now c.loop-flaws.left.now cut.0 c.loop-flaws.invariant.so_far cut.1 cut.2 cut.3)
