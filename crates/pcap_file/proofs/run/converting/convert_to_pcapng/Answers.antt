use Rattle.std.proofs.Common.{inl, inr}
use Rattle.pcap_file.proofs.run.converting.convert_to_pcapng.Goals as goal
use Rattle.pcap_file.proofs.run.converting.convert_to_pcapng.Goals.{in-Ok, in-Err}

pub returns-clause-run : goal.returns-clause-run
returns-clause-run g c =
    rw (c.end_copy.ensures, c.err.ensures.value) (elim c.match-begin_conversion.branch [
      | in-Ok w ↦
          rw (w.reader-is, w.writer-is, w.tally-is, w.result-is) (inr (record { header = w.in-Ok.packets.header; behind = _; out_behind = _; opened = w.in-Ok.ensures.0; packets = w.copy-result.ensures }))
      | in-Err w ↦ rw (w.reader-is, w.writer-is, w.tally-is, w.result-is) (inl w.in-Err.ensures)
    ])
