use Rattle.std.proofs.Common.{inl, inr}
use Rattle.pcap_ng.specs.State.{state_in}
use Rattle.pcap_ng.proofs.BlockFormat.{blocks_lawful}
use Rattle.pcap_ng.proofs.Copied.{first_copies}
use Rattle.pcap_ng.proofs.pcapng.copying.copy_pcapng.Goals as goal
use Rattle.pcap_ng.proofs.pcapng.copying.copy_pcapng.Goals.{in-Ok, in-Err}

pub copy_items-result-requires-clause-lawful : goal.copy_items-result-requires-clause-lawful
copy_items-result-requires-clause-lawful g c = blocks_lawful

pub returns-clause-run : goal.returns-clause-run
returns-clause-run g c =
    rw (c.of.ensures, c.err.ensures.value) (elim c.match-copy_first.branch [
      | in-Ok w ↦
          let first = w.in-Ok.ensures.begins.1 in
          rw (w.reader-is, w.writer-is, w.tally-is, w.result-is) (inr (first_copies first.0 (state_in w.in-Ok.now) _ _ _ _ _ _ c.args.most _ _ first.1 first.2 w.copy_items-result.ensures))
      | in-Err w ↦ rw (w.reader-is, w.writer-is, w.tally-is, w.result-is) (inl w.in-Err.ensures.begins)
    ])
