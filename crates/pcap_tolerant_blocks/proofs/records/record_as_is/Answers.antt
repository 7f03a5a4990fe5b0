use Rattle.std.proofs.Common.{refl}
use Rattle.pcap_options.specs.Record.{End, other_of}
use Rattle.pcap_options.proofs.NameRecords.{kept_of}
use Rattle.pcap_tolerant_blocks.proofs.RecordsAsIs.{strict_end, strict_kept, end_broken, kept_broken}
use Rattle.pcap_tolerant_blocks.proofs.records.record_as_is.Goals.{in-End, in_default}
use Rattle.pcap_tolerant_blocks.proofs.records.record_as_is.Goals as goal

pub returns-in-Ok-clause-read : goal.returns-in-Ok-clause-read
returns-in-Ok-clause-read g c =
    let order = g.B.ByteOrder.number_of in
    elim c.match-record.branch [
      | in-End w ↦ rw w.result-is (End, strict_end order _ _ (rw w.in-End.is at c.in-Ok.ensures.tells))
      | in_default w ↦
          let kept = kept_of order c.in-Ok.record _ _ c.in-Ok.ensures.tells w.in_default.not-End in
          rw w.result-is (strict_kept order _ _ _ kept.no_end kept.record_is)
    ]

pub returns-then-record-eq0-clause-read : goal.returns-then-record-eq0-clause-read
returns-then-record-eq0-clause-read g c =
    (other_of c.in-Some.record, end_broken g.B.ByteOrder.number_of c.in-Some.record _ _ _ _ c.in-Some.ensures c.in_ok-broken-in-Err.ensures.read refl c.if-record-eq0.true)

pub returns-clause-read : goal.returns-clause-read
returns-clause-read g c =
    kept_broken g.B.ByteOrder.number_of c.in-Some.record _ _ _ _ c.in-Some.ensures c.in_ok-broken-in-Err.ensures.read refl c.if-record-eq0.false
