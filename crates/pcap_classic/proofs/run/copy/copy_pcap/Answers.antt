use Rattle.pcap_classic.proofs.Copied.{copies_run, not_begun, run_copies}
use Rattle.pcap_classic.proofs.run.copy.copy_pcap.Goals as goal
use Rattle.pcap_classic.proofs.run.copy.copy_pcap.Goals.{in-Ok, in-Err}

pub returns-clause-run : goal.returns-clause-run
returns-clause-run g c =
    rw (c.end_copy.ensures, c.err.ensures.value) (elim c.match-begin_copy.branch [
      | in-Ok w ↦ rw (w.reader-is, w.writer-is, w.tally-is, w.result-is) (copies_run c.args.under _ _ _ _ _ _ _ _ c.args.most _ _ _ w.in-Ok.ensures w.copy-result.ensures)
      | in-Err w ↦ rw (w.reader-is, w.writer-is, w.tally-is, w.result-is) (not_begun _ _ _ _ _ c.args.most _ w.in-Err.ensures)
    ])

pub returns-clause-front : goal.returns-clause-front
returns-clause-front g c = run_copies _ _ _ _ _ _ _ (returns-clause-run g c)
