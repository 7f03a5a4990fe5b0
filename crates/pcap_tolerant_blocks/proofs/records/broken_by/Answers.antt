use Rattle.pcap_options.specs.Record.{RecordFault, RecordMayGrow}
use Rattle.pcap_tolerant_blocks.proofs.RecordsAsIs.{io_stands}
use Rattle.pcap_tolerant_blocks.proofs.records.broken_by.Goals as goal

pub returns : goal.returns
returns g c =
    let order = g.B.ByteOrder.number_of in
    let s = c.args.slice.now in
    let io = io_stands (RecordMayGrow order s) (RecordFault order s) c.args.error (λ rule named. c.in_default.not-Some rule (c.rule.ensures.found rule named)) c.in_default-error.not-Utf8Error c.in_default-error.not-OutOfMemory c.requires in
    record { read = io; memory = tt }
