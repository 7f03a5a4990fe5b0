use Rattle.std.proofs.Common.{inl, inr}
use Rattle.pcap_classic.specs.Parser.{header_of}
use Rattle.pcap_tolerant.proofs.KnownPackets.{under_lawful}
use Rattle.pcap_tolerant.proofs.copy.copy_pcap_as_is.Goals as goal
use Rattle.pcap_tolerant.proofs.copy.copy_pcap_as_is.Goals.{in-Ok, in-Err}

pub copy_items-result-requires-clause-lawful : goal.copy_items-result-requires-clause-lawful
copy_items-result-requires-clause-lawful g c = under_lawful c.args.limit (header_of c.in-Ok.parser)

pub copy_items-result-requires-clause-stands : goal.copy_items-result-requires-clause-stands
copy_items-result-requires-clause-stands g c = under_lawful c.args.limit (header_of c.in-Ok.parser)

pub returns-clause-run : goal.returns-clause-run
returns-clause-run g c =
    rw (c.end_copy.ensures, c.err.ensures.value) (elim c.match-copy_header.branch [
      | in-Ok w ↦
          rw (w.reader-is, w.writer-is, w.tally-is, w.result-is) (inr (record { header = header_of w.in-Ok.parser; behind = _; out_behind = _; opened = w.in-Ok.ensures.1; packets = w.copy_items-result.ensures }))
      | in-Err w ↦ rw (w.reader-is, w.writer-is, w.tally-is, w.result-is) (inl w.in-Err.ensures)
    ])
